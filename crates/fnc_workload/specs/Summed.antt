-- The counts of a journal, and the line that tells them.
use Rattle.std.specs.Prelude.{ℕ, List, [], ◌∷◌, ◌++◌, ◌+◌, ◌<◌, Bool, true, false, if◌then◌else◌, length, codes, decimal}
use Rattle.fnc_journal.specs.declared.entry.Answer.{Answer}
use Rattle.fnc_journal.specs.declared.event.Event.{Event}
use Rattle.fnc_journal.specs.History.{History}
use Rattle.fnc_journal.specs.Found.{asks, replies}
use Rattle.fnc_answered.specs.Counts.{is_levels, is_no_device, is_passed, is_time, replies_that}
use Rattle.fnc_workload.specs.Lines.{Course}
use Rattle.fnc_workload.specs.declared.tally.Tally.{Tally}

-- whether it is a refusal
abbrev pub is_refused : Event → Bool
is_refused (Event.Refused refusal) = true
is_refused _ = false

-- how many lines were refused
abbrev pub refusals : History → ℕ
refusals [] = 0
refusals (e ∷ before) = if is_refused e.event then refusals before + 1 else refusals before

-- the counts of a journal
abbrev pub tally_of : History → Tally
tally_of h =
    record {
      asked = asks h;
      answered = replies h;
      passed = replies_that is_passed h;
      levels = replies_that is_levels h;
      time = replies_that is_time h;
      none = replies_that is_no_device h;
      refused = refusals h;
    }

-- each count is below a number
pub record IsBelow (n : ℕ) (t : Tally) : Type 0 where
  pub asked : t.asked < n
  pub answered : t.answered < n
  pub passed : t.passed < n
  pub levels : t.levels < n
  pub time : t.time < n
  pub none : t.none < n
  pub refused : t.refused < n

-- the counts with one more answer
abbrev pub answered : Tally → Answer → Tally
answered t (Answer.Passed level) = record t { answered = t.answered + 1; passed = t.passed + 1 }
answered t Answer.Levels = record t { answered = t.answered + 1; levels = t.levels + 1 }
answered t Answer.Time = record t { answered = t.answered + 1; time = t.time + 1 }
answered t Answer.NoDevice = record t { answered = t.answered + 1; none = t.none + 1 }
answered t Answer.Confirmed = record t { answered = t.answered + 1 }

-- the counts with one more entry
abbrev pub tallied : Tally → Event → Tally
tallied t (Event.Ask ask) = record t { asked = t.asked + 1 }
tallied t (Event.Reply reply) = answered t reply.answer
tallied t (Event.Refused refusal) = record t { refused = t.refused + 1 }
tallied t _ = t

-- texts one after another
abbrev pub joined : List (List ℕ) → List ℕ
joined [] = []
joined (x ∷ xs) = x ++ joined xs

-- the line of a workload with so many entries and these counts
abbrev pub summary : Course → ℕ → Tally → List ℕ
summary c entries t =
    joined
    (codes "workload " ∷ decimal c.number ∷ codes " " ∷ decimal c.count ∷ codes " entries " ∷ decimal entries
    ∷ codes " asked " ∷ decimal t.asked ∷ codes " answered " ∷ decimal t.answered ∷ codes " passed "
    ∷ decimal t.passed ∷ codes " levels " ∷ decimal t.levels ∷ codes " time " ∷ decimal t.time ∷ codes " none "
    ∷ decimal t.none ∷ codes " refused " ∷ decimal t.refused ∷ codes "\n" ∷ [])

-- the line of a workload with this journal
abbrev pub summary_line : Course → History → List ℕ
summary_line c h = summary c (length h) (tally_of h)
