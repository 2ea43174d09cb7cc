-- What is gathered of an operation, as the definitions say it.
use Rattle.std.proofs.Common.{
  ℕ,
  List,
  [],
  ◌∷◌,
  ◌++◌,
  Bool,
  true,
  false,
  ◌≡◌,
  ◌&&◌,
  ◌+◌,
  not,
  max,
  leb,
  cond,
  refl,
  sym,
  ap,
  ◌∙◌,
  arith,
  Option,
  Some,
  None,
}
use Rattle.std.specs.Prelude.{if◌then◌else◌, find, filter, filter_map, is_none, option_map, option_and_then}
use Rattle.std.specs.List.{list_all, cons_option}
use Rattle.std.specs.Option.{option_or}
use Rattle.fnc_journal.specs.declared.entry.Answer.{Answer}
use Rattle.fnc_journal.specs.declared.entry.Scope.{Scope}
use Rattle.fnc_journal.specs.Missing.{has_any}
use Rattle.fnc_journal.specs.Slots.{Task, QueriedDevice, Rank, Operation, queries, rank, ranked_from, slots_of}
use Rattle.fnc_journal.specs.Acts.{Act, concluded}
use Rattle.fnc_journal.specs.Standing.{
  capable,
  capable_query,
  queries_concluded,
  ranks,
  first_kept,
  standing,
  standing_in,
  since,
  greatest_concluded,
  lost,
}
use Rattle.fnc_journal.specs.Due.{passed_among, answer_passed, failure_due, time_due, due_by_acts, is_done}
use Rattle.fnc_judge.specs.declared.course.Due.{Due}
use Rattle.fnc_judge.specs.Tours.{Gathered, gathered_all, gathered_any, nothing}
use Rattle.fnc_judge.specs.Surveys.{Survey, Kept, none, surveyed, surveyed_all}
use Rattle.fnc_search.specs.Pursued.{Pursued, operation, candidates_of}
use Rattle.fnc_judge.specs.Courses.{
  Course,
  start,
  coursed,
  coursed_all,
  tried,
  course_by,
  course_of,
  queries_of,
  survey_of,
  answer_of,
  standing_by,
  time_by,
  failure_by,
  passed_by,
  due_by,
  since_by,
}
use Rattle.fnc_judge.proofs.Gatherings.{gathered-unconcluded, gathered-greatest, all-find}
use Rattle.fnc_judge.proofs.SurveyLemmas.{
  kept_of,
  survey-kept,
  survey-any,
  survey-greatest,
  standing-same,
  done-same,
  passed-same,
  lost-all,
}

queries-cons : (o : Operation) (m : ℕ) (acts : List Act) (g : Gathered) (t : Option Task) (ts : List Task) →
    gathered_all o m acts (gathered_any o m acts g t) ts ≡ gathered_all o m acts g (cons_option t ts)
queries-cons o m acts g None ts = refl
queries-cons o m acts g (Some t) ts = refl

course-queries : (o : Operation) (m : ℕ) (acts : List Act) (s : Course) (cs : List QueriedDevice) →
    (coursed_all o m acts s cs).queries
    ≡ gathered_all o m acts s.queries (filter_map (λ (c : QueriedDevice). c.query) cs)
course-queries o m acts s [] = refl
course-queries o m acts s (c ∷ cs) =
    course-queries o m acts (coursed o m acts s c) cs
    ∙ queries-cons o m acts s.queries c.query (filter_map (λ (c : QueriedDevice). c.query) cs)

course-survey : (o : Operation) (m : ℕ) (acts : List Act) (s : Course) (cs : List QueriedDevice) →
    (coursed_all o m acts s cs).survey
    ≡ surveyed_all o m acts s.survey
    (ranked_from o.kind s.index (filter (λ (c : QueriedDevice). capable_query o acts c.query) cs))
course-survey o m acts s [] = refl
course-survey o m acts s (c ∷ cs) = course-survey o m acts (coursed o m acts s c) cs ∙ go (capable_query o acts c.query)
  where
    go : (b : Bool) →
        surveyed_all o m acts (cond b (surveyed o m acts s.survey (rank o.kind s.index (Some c.device ∷ []))) s.survey)
        (ranked_from o.kind (cond b (s.index + 1) s.index)
        (filter (λ (c : QueriedDevice). capable_query o acts c.query) cs))
        ≡ surveyed_all o m acts s.survey
        (ranked_from o.kind s.index
        (cond b (c ∷ filter (λ (c : QueriedDevice). capable_query o acts c.query) cs)
        (filter (λ (c : QueriedDevice). capable_query o acts c.query) cs)))
    go true = refl
    go false = refl

-- every query is concluded where none is found that is not
concluded-none : (o : Operation) (m : ℕ) (acts : List Act) →
    queries_concluded o m acts ≡ is_none (queries_of o m acts).unconcluded
concluded-none o m acts =
    all-find (λ q. concluded q o.over m acts) (queries o)
    ∙ sym (ap is_none (gathered-unconcluded o m acts nothing (queries o)))

-- the queries and the levels of an operation
pub record IsCourse (p : Pursued) (m : ℕ) (acts : List Act) (s : Course) : Type 0 where
  pub queries : s.queries ≡ queries_of (operation p) m acts
  pub survey : s.survey ≡ survey_of (operation p) m acts

tried-is : (p : Pursued) (m : ℕ) (acts : List Act) (s : Course) → s.queries ≡ queries_of (operation p) m acts →
    s.survey ≡ surveyed_all (operation p) m acts none (ranked_from (operation p).kind 1 (capable (operation p) acts)) →
    (operation p).levelled ≡ false → IsCourse p m acts (tried s)
tried-is p m acts s q v l = go (is_none s.queries.unconcluded) refl
  where
    o : Operation
    o = operation p

    concludes : queries_concluded o m acts ≡ is_none s.queries.unconcluded
    concludes = concluded-none o m acts ∙ sym (ap (λ (g : Gathered). is_none g.unconcluded) q)

    go : (b : Bool) → is_none s.queries.unconcluded ≡ b → IsCourse p m acts (cond b s (record s { survey = none }))
    go true e =
        let all : ranks o m acts ≡ ranked_from o.kind 1 (capable o acts) = rw (l, concludes, e) refl in
        record { queries = q; survey = v ∙ sym (ap (surveyed_all o m acts none) all) }
    go false e =
        let all : ranks o m acts ≡ [] = rw (l, concludes, e) refl in
        record { queries = q; survey = sym (ap (surveyed_all o m acts none) all) }

course-by : (scope : Scope) (p : Pursued) (m : ℕ) (acts : List Act) → p.asked.scope ≡ scope →
    IsCourse p m acts (course_by scope p m acts)
course-by Scope.Nothing p m acts e =
    tried-is p m acts (coursed_all (operation p) m acts start (candidates_of p))
    (course-queries (operation p) m acts start (candidates_of p) ∙ rw e refl)
    (course-survey (operation p) m acts start (candidates_of p) ∙ rw e refl)
    (rw e refl)
course-by Scope.Name p m acts e = record { queries = rw e refl; survey = rw e refl }
course-by (Scope.Pattern n) p m acts e = record { queries = rw e refl; survey = rw e refl }

pub course-is : (p : Pursued) (m : ℕ) (acts : List Act) → IsCourse p m acts (course_of p m acts)
course-is p m acts = course-by p.asked.scope p m acts refl

-- the slot at which it stands
kept-standing : (o : Operation) (m : ℕ) (acts : List Act) (l : Option Rank) →
    option_and_then (λ (k : Kept). k.standing) (option_map (kept_of o m acts) l)
    ≡ option_and_then (standing_in o m acts) l
kept-standing o m acts None = refl
kept-standing o m acts (Some l) = standing-same o m acts l

pub standing-is : (p : Pursued) (m : ℕ) (acts : List Act) →
    standing_by (course_of p m acts).queries (course_of p m acts).survey ≡ standing (operation p) m acts
standing-is p m acts =
    let o = operation p in
    let is = course-is p m acts in
    ap (λ (q : Gathered). standing_by q (course_of p m acts).survey) is.queries
    ∙ ap (λ (s : Survey). standing_by (queries_of o m acts) s) is.survey
    ∙ ap (λ (t : Option Task). option_or t (option_and_then (λ (k : Kept). k.standing) (survey_of o m acts).kept))
    (gathered-unconcluded o m acts nothing (queries o))
    ∙ ap (λ (k : Option Kept). option_or (find (λ q. not (concluded q o.over m acts)) (queries o))
    (option_and_then (λ (k : Kept). k.standing) k)) (survey-kept o m acts none (ranks o m acts))
    ∙ ap (option_or (find (λ q. not (concluded q o.over m acts)) (queries o)))
    (kept-standing o m acts (first_kept o m acts (ranks o m acts)))

-- the answer that is due
pub due-is : (p : Pursued) (m : ℕ) (acts : List Act) →
    option_map answer_of (due_by (operation p).over m (course_of p m acts).queries (course_of p m acts).survey)
    ≡ due_by_acts (operation p) m acts
due-is p m acts =
    ap (λ (q : Gathered). option_map answer_of (due_by o.over m q (course_of p m acts).survey)) is.queries
    ∙ ap (λ (s : Survey). option_map answer_of (due_by o.over m (queries_of o m acts) s)) is.survey
    ∙ joined (passed_by (survey_of o m acts)) (failure_by o.over m (queries_of o m acts) (survey_of o m acts))
    ∙ ap (λ (a : Option Answer). option_or a
    (option_map answer_of (failure_by o.over m (queries_of o m acts) (survey_of o m acts)))) passes
    ∙ ap (option_or (option_map answer_passed (passed_among o m acts ls))) (fails ls refl)
  where
    o : Operation
    o = operation p

    is : IsCourse p m acts (course_of p m acts)
    is = course-is p m acts

    ls : List Rank
    ls = ranks o m acts

    joined : (a b : Option Due) →
        option_map answer_of (option_or a b) ≡ option_or (option_map answer_of a) (option_map answer_of b)
    joined None b = refl
    joined (Some a) b = refl

    kept : (survey_of o m acts).kept ≡ option_map (kept_of o m acts) (first_kept o m acts ls)
    kept = survey-kept o m acts none ls

    passed-kept : (l : Option Rank) →
        option_map answer_of (option_and_then (λ (k : Kept). if k.done then Some (Due.Passed k.index) else None)
        (option_map (kept_of o m acts) l))
        ≡ option_map answer_passed (option_and_then (λ l. if is_done o m acts l then Some l else None) l)
    passed-kept None = refl
    passed-kept (Some l) = go (kept_of o m acts l).done (is_done o m acts l) (done-same o m acts l)
      where
        go : (b c : Bool) → b ≡ c →
            option_map answer_of (cond b (Some (Due.Passed l.index)) None)
            ≡ option_map answer_passed (cond c (Some l) None)
        go true true e = refl
        go true false e = cc
        go false true e = cc
        go false false e = refl

    passes : option_map answer_of (passed_by (survey_of o m acts)) ≡ option_map answer_passed (passed_among o m acts ls)
    passes =
        ap (λ (k : Option Kept). option_map answer_of
        (option_and_then (λ (k : Kept). if k.done then Some (Due.Passed k.index) else None) k)) kept
        ∙ passed-kept (first_kept o m acts ls)
        ∙ ap (option_map answer_passed) (sym (passed-same o m acts ls))

    time-same : option_map answer_of (time_by o.over m) ≡ time_due o m
    time-same = go (leb o.over m)
      where
        go : (b : Bool) → option_map answer_of (cond b (Some Due.Time) None) ≡ cond b (Some Answer.Time) None
        go true = refl
        go false = refl

    none-kept : (l : Option Rank) → is_none (option_map (kept_of o m acts) l) ≡ is_none l
    none-kept None = refl
    none-kept (Some l) = refl

    choose : (b : Bool) (d : Due) →
        option_map answer_of (cond b (Some d) (time_by o.over m)) ≡ cond b (Some (answer_of d)) (time_due o m)
    choose true d = refl
    choose false d = time-same

    fails : (ls : List Rank) → ranks o m acts ≡ ls →
        option_map answer_of (failure_by o.over m (queries_of o m acts) (survey_of o m acts)) ≡ failure_due o m acts ls
    fails [] e =
        let any = survey-any o m acts none (ranks o m acts) ∙ ap has_any e in
        rw any (choose (is_none (queries_of o m acts).unconcluded) Due.NoDevice
        ∙ ap (λ b. cond b (Some Answer.NoDevice) (time_due o m)) (sym (concluded-none o m acts)))
    fails (l ∷ ls) e =
        let any = survey-any o m acts none (ranks o m acts) ∙ ap has_any e in
        let all = ap is_none kept ∙ none-kept (first_kept o m acts (ranks o m acts))
        ∙ sym (lost-all o m acts (ranks o m acts)) ∙ ap (list_all (lost o m acts)) e in
        rw any (choose (is_none (queries_of o m acts).unconcluded && is_none (survey_of o m acts).kept) Due.Levels
        ∙ ap (λ b. cond (b && is_none (survey_of o m acts).kept) (Some Answer.Levels) (time_due o m))
        (sym (concluded-none o m acts))
        ∙ ap (λ b. cond (queries_concluded o m acts && b) (Some Answer.Levels) (time_due o m)) all)

-- since when it stands there
pub since-is : (p : Pursued) (m : ℕ) (acts : List Act) →
    since_by (operation p).begin (course_of p m acts) ≡ since (operation p) m acts
since-is p m acts =
    joined _ _ _ _ _ (ap (λ (g : Gathered). g.greatest) is.queries) (ap (λ (v : Survey). v.greatest) is.survey)
    (gathered-greatest o m acts nothing (queries o) (slots_of (ranks o m acts)))
    (survey-greatest o m acts none (ranks o m acts))
  where
    o : Operation
    o = operation p

    is : IsCourse p m acts (course_of p m acts)
    is = course-is p m acts

    joined : (a b q s g : ℕ) → a ≡ q → b ≡ s →
        max 0 g ≡ max q (greatest_concluded o m acts (slots_of (ranks o m acts))) →
        max 0 (greatest_concluded o m acts (slots_of (ranks o m acts))) ≡ max s o.begin → max a (max b o.begin) ≡ g
    joined a b q s g e f x y = omega (arith, e, f, x, y)

-- while nothing was started it stands there since it began
pub since-idle : (o : Operation) (m : ℕ) → since o m [] ≡ o.begin
since-idle o m = go (queries o ++ slots_of (ranks o m []))
  where
    go : (ts : List Task) → greatest_concluded o m [] ts ≡ o.begin
    go [] = refl
    go (t ∷ ts) = pick (concluded t o.over m []) (go ts)
      where
        pick : (b : Bool) → greatest_concluded o m [] ts ≡ o.begin →
            cond b (max o.begin (greatest_concluded o m [] ts)) (greatest_concluded o m [] ts) ≡ o.begin
        pick true e = omega (arith, e)
        pick false e = e
