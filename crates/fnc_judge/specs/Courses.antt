-- What the judge gathers of an operation: of its queries and of the levels that it tries.
use Rattle.std.specs.Prelude.{ℕ, List, [], ◌∷◌, ◌&&◌, ◌+◌, Bool, if◌then◌else◌, nat_le, max, Option, Some, None, is_none}
use Rattle.std.specs.Prelude.{option_and_then}
use Rattle.std.specs.Option.{option_or}
use Rattle.fnc_journal.specs.declared.entry.Answer.{Answer}
use Rattle.fnc_journal.specs.Slots.{Task, QueriedDevice, Operation, rank, queries}
use Rattle.fnc_journal.specs.Acts.{Act}
use Rattle.fnc_journal.specs.Standing.{capable_query, ranks}
use Rattle.fnc_judge.specs.declared.course.Due.{Due}
use Rattle.fnc_journal.specs.declared.entry.Scope.{Scope}
use Rattle.fnc_search.specs.Pursued.{Pursued, operation, candidates_of}
use Rattle.fnc_judge.specs.Tours.{Gathered, nothing, gathered_any, gathered_all}
use Rattle.fnc_judge.specs.Surveys.{Survey, Kept, none, surveyed, surveyed_all}

-- what is gathered of the queries, and of the capable candidates as levels, of which the next has this number
pub record Course : Type 0 where
  pub queries : Gathered
  pub survey : Survey
  pub index : ℕ

-- of no candidates
abbrev pub start : Course
start = record { queries = nothing; survey = none; index = 1 }

-- with one more candidate
abbrev pub coursed : Operation → ℕ → List Act → Course → QueriedDevice → Course
coursed o m acts s c = record {
  queries = gathered_any o m acts s.queries c.query;
  survey =
      if capable_query o acts c.query then surveyed o m acts s.survey (rank o.kind s.index (Some c.device ∷ []))
      else s.survey;
  index = if capable_query o acts c.query then s.index + 1 else s.index;
}

-- with one more candidate, if there is one
abbrev pub coursed_any : Operation → ℕ → List Act → Course → Option QueriedDevice → Course
coursed_any o m acts s None = s
coursed_any o m acts s (Some c) = coursed o m acts s c

-- with all these candidates
abbrev pub coursed_all : Operation → ℕ → List Act → Course → List QueriedDevice → Course
coursed_all o m acts s [] = s
coursed_all o m acts s (c ∷ cs) = coursed_all o m acts (coursed o m acts s c) cs

-- what is gathered of all its queries
abbrev pub queries_of : Operation → ℕ → List Act → Gathered
queries_of o m acts = gathered_all o m acts nothing (queries o)

-- what is gathered of all levels that it tries
abbrev pub survey_of : Operation → ℕ → List Act → Survey
survey_of o m acts = surveyed_all o m acts none (ranks o m acts)

-- an answer as the judge keeps it, with a level of any number
abbrev pub answer_of : Due → Answer
answer_of (Due.Passed level) = Answer.Passed level
answer_of Due.Levels = Answer.Levels
answer_of Due.Time = Answer.Time
answer_of Due.NoDevice = Answer.NoDevice
answer_of Due.Confirmed = Answer.Confirmed

-- the slot at which it stands
abbrev pub standing_by : Gathered → Survey → Option Task
standing_by q s = option_or q.unconcluded (option_and_then (λ (k : Kept). k.standing) s.kept)

-- its total is over
abbrev pub time_by : ℕ → ℕ → Option Due
time_by over m = if nat_le over m then Some Due.Time else None

-- no device is capable, every level is lost, or the time is over
abbrev pub failure_by : ℕ → ℕ → Gathered → Survey → Option Due
failure_by over m q s =
    if s.any
    then (if is_none q.unconcluded && is_none s.kept then Some Due.Levels else time_by over m)
    else (if is_none q.unconcluded then Some Due.NoDevice else time_by over m)

-- the level that passes
abbrev pub passed_by : Survey → Option Due
passed_by s = option_and_then (λ (k : Kept). if k.done then Some (Due.Passed k.index) else None) s.kept

-- the answer that is due by the acts alone
abbrev pub due_by : ℕ → ℕ → Gathered → Survey → Option Due
due_by over m q s = option_or (passed_by s) (failure_by over m q s)

-- the candidates are tried once every query is concluded
abbrev pub tried : Course → Course
tried s = if is_none s.queries.unconcluded then s else record s { survey = none }

-- of an operation with this scope
abbrev pub course_by : Scope → Pursued → ℕ → List Act → Course
course_by Scope.Nothing p m acts = tried (coursed_all (operation p) m acts start (candidates_of p))
course_by _ p m acts =
    record { queries = nothing; survey = surveyed_all (operation p) m acts none (operation p).levels; index = 1 }

-- of an operation
abbrev pub course_of : Pursued → ℕ → List Act → Course
course_of p m acts = course_by p.asked.scope p m acts

-- since when the operation stands where it stands
abbrev pub since_by : ℕ → Course → ℕ
since_by begin s = max s.queries.greatest (max s.survey.greatest begin)

-- what tells where an operation stands, and which answer is due to it
pub record Stand : Type 0 where
  pub unconcluded : Option Task
  pub any : Bool
  pub kept : Option Kept

-- what was gathered of it
abbrev pub stand : Course → Stand
stand s = record { unconcluded = s.queries.unconcluded; any = s.survey.any; kept = s.survey.kept }

-- the slot at which it stands
abbrev pub standing_of : Stand → Option Task
standing_of s = option_or s.unconcluded (option_and_then (λ (k : Kept). k.standing) s.kept)

-- the answer that is due by the acts alone
abbrev pub due_of : ℕ → ℕ → Stand → Option Due
due_of over m s =
    due_by over m (record nothing { unconcluded = s.unconcluded }) (record none { any = s.any; kept = s.kept })
