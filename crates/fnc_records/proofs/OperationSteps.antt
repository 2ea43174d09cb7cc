-- An operation's record stays what the acts say when one of its runs starts or ends, and when time passes.
use Rattle.std.proofs.Common.{
  ℕ,
  List,
  [],
  ◌∷◌,
  Bool,
  true,
  false,
  ◌≡◌,
  ◌≤◌,
  ◌<◌,
  ◌^◌,
  refl,
  ap,
  ap₂,
  sym,
  ◌∙◌,
  subst,
  Option,
  Some,
  None,
  cond,
  not,
  ◌&&◌,
  ◌||◌,
  ◌==◌,
  arith,
  map,
}
use Rattle.std.proofs.lemmas.Bool.Decides.{nat_tests}
use Rattle.std.specs.Prelude.{option_map, filter_map}
use Rattle.std.specs.List.{list_all, AllZip, AllByRecursion, cons_option}
use Rattle.fnc_journal.specs.declared.entry.Exit.{Exit}
use Rattle.fnc_journal.specs.declared.entry.Phase.{Phase}
use Rattle.fnc_journal.specs.declared.entry.Slot.{Slot}
use Rattle.fnc_journal.specs.Missing.{has_come}
use Rattle.fnc_journal.specs.Same.{same_slot, same_phase}
use Rattle.fnc_journal.specs.Slots.{Task, Operation, QueriedDevice, queries, slots_of, ranked_from, act_task, tries}
use Rattle.fnc_journal.specs.Acts.{
  Act,
  moment_of,
  is_query_phase,
  concluded,
  spent,
  failed,
  has_succeeded,
  end,
  limit,
  is_below,
}
use Rattle.fnc_journal.specs.Standing.{capable, ranks, queries_concluded}
use Rattle.fnc_journal.proofs.Each.{each-map}
use Rattle.fnc_journal.proofs.SlotLemmas.{same-begun, same-ended_other}
use Rattle.fnc_journal.proofs.StandingLemmas.{Same, ranks-same, queries_concluded-same, capable-same}
use Rattle.fnc_stands.specs.Distinct.{AreDistinct}
use Rattle.fnc_records.specs.declared.slot.LastRun.{LastRun}
use Rattle.fnc_records.specs.declared.slot.SlotRecord.{SlotRecord}
use Rattle.fnc_records.specs.KeptLevel.{KeptLevel}
use Rattle.fnc_records.specs.KeptOperation.{KeptOperation}
use Rattle.fnc_records.specs.SlotRecords.{at_level, started, ended}
use Rattle.fnc_records.specs.SlotFacts.{last_of}
use Rattle.fnc_records.specs.LevelRecords.{is_queried, level_started, level_ended}
use Rattle.fnc_records.specs.LevelFacts.{IsLevelSlot, IsQuerySlot, IsLevel, AreFew}
use Rattle.fnc_records.specs.OperationRecords.{
  is_idle,
  ranked_levels,
  ranked_if_queried,
  at_moment,
  operation_started,
  operation_ended,
}
use Rattle.fnc_records.specs.OperationFacts.{
  IsCandidate,
  IsUnranked,
  IsOperation,
  kept_queries,
  tried_levels,
  ArePast,
  AreInTurn,
}
use Rattle.fnc_records.proofs.Zip.{zip_map, zip_each, zip_map_each}
use Rattle.fnc_records.proofs.LevelSteps.{
  level_slot-started,
  query_slot-started,
  query-started,
  level-started,
  level_slot-ended,
  query_slot-ended,
  query-ended,
  level-ended,
  IsFree,
  AreFree,
  ForSome,
}
use Rattle.fnc_records.proofs.OperationAnswers.{queries_is}
use Rattle.fnc_records.proofs.Ranking.{queries-ranked, queries-zip, ranks_by, ranks_known, ranks_unknown}

-- a change of each level's slots changes each query, and the levels that are tried
module _ (f : KeptLevel → KeptLevel) (g : SlotRecord → SlotRecord) (q : (l : KeptLevel) →
    (f l).query ≡ option_map g l.query) (t : (l : KeptLevel) → (f l).tried ≡ l.tried) where
  pub queries-changed : (ls : List KeptLevel) → kept_queries (map f ls) ≡ map g (kept_queries ls)
  queries-changed [] = refl
  queries-changed (l ∷ ls) = ap (λ x. cons_option x (kept_queries (map f ls))) (q l) ∙ go l.query (queries-changed ls)
    where
      go : (x : Option SlotRecord) → kept_queries (map f ls) ≡ map g (kept_queries ls) → cons_option (option_map g x)
          (kept_queries (map f ls)) ≡ map g (cons_option x (kept_queries ls))
      go None e = e
      go (Some r) e = ap (λ ys. g r ∷ ys) e

  pub tried-changed : (ls : List KeptLevel) → tried_levels (map f ls) ≡ map f (tried_levels ls)
  tried-changed [] = refl
  tried-changed (l ∷ ls) = ap (λ b. cond b (f l ∷ tried_levels (map f ls)) (tried_levels (map f ls))) (t l)
      ∙ go l.tried (tried-changed ls)
    where
      go : (b : Bool) → tried_levels (map f ls) ≡ map f (tried_levels ls) → cond b (f l ∷ tried_levels (map f ls))
          (tried_levels (map f ls)) ≡ map f (cond b (l ∷ tried_levels ls) (tried_levels ls))
      go true e = ap (λ ys. f l ∷ ys) e
      go false e = e

-- a query's slot is no candidate's Act slot
other_slot : (p s : Slot) → p.phase ≡ Phase.Act → is_query_phase s.phase ≡ true → same_slot p s ≡ false
other_slot p s e f = rw e (go s.phase f)
  where
    go : (k : Phase) → is_query_phase k ≡ true →
        (same_phase Phase.Act k && (p.level == s.level) && (p.place == s.place)) ≡ false
    go Phase.Query h = refl
    go Phase.Act h = cc
    go Phase.Off h = cc
    go Phase.On h = cc

phase_of_act : (o : Operation) (xs : List Act) (r : SlotRecord) (d : QueriedDevice) →
    ((k : ℕ) → IsLevelSlot o xs (at_level k r) (act_task false o.kind k 0 d.device)) → r.slot.phase ≡ Phase.Act
phase_of_act o xs r d h = let e : (at_level 0 r).slot ≡ (act_task false o.kind 0 0 d.device).slot = (h 0).is.slot in
    ap (λ (s : Slot). s.phase) e

-- so a start of a query leaves it free
act-free : (o : Operation) (m : ℕ) (s : Slot) (xs : List Act) (k : ℕ) (d : QueriedDevice) →
    is_query_phase s.phase ≡ true → IsFree o m s xs (act_task false o.kind k 0 d.device)
act-free o m s xs k d e f = let other : same_slot (act_task false o.kind k 0 d.device).slot s ≡ false =
    other_slot (act_task false o.kind k 0 d.device).slot s refl e in cc

-- a start
module _ (o : Operation) (m run : ℕ) (s : Slot) (xs : List Act) (few : AreFew xs) (early : m < 2 ^ 63) where
  each-begun : (rs : List SlotRecord) → AllZip (IsQuerySlot o xs) rs (queries o) →
      AllByRecursion (Same o.over m (Act.Begun m run s ∷ xs) m xs) (queries o)
  each-begun rs z = zip_each (IsQuerySlot o xs) (Same o.over m (Act.Begun m run s ∷ xs) m xs)
      (λ a b h. same-begun b o.over m run s xs h.short.begins) rs (queries o) z

  candidate-started : is_query_phase s.phase ≡ true → (r : KeptLevel) (c : QueriedDevice) →
      ForSome (IsFree o m s xs) c.query → IsCandidate o xs r c → IsCandidate o (Act.Begun m run s ∷ xs)
      (level_started s m r) c
  candidate-started e r c free h = record {
    act = h.act;
    query = query-started o m run s xs few early r.query c.query free h.query;
    untried = h.untried;
    fit = h.fit;
    firsts = ap (map (started s m)) h.firsts ∙ rw other refl;
    is = λ k. subst (λ x. IsLevelSlot o (Act.Begun m run s ∷ xs) x (act_task false o.kind k 0 c.device)) (same k)
        (level_slot-started o m run s xs few early (at_level k h.act) (act_task false o.kind k 0 c.device)
        (act-free o m s xs k c e) (h.is k));
    ons = ap (map (started s m)) h.ons;
  }
    where
      other : same_slot h.act.slot s ≡ false
      other = other_slot h.act.slot s (phase_of_act o xs h.act c h.is) e

      same : (k : ℕ) → started s m (at_level k h.act) ≡ at_level k h.act
      same k = let no : same_slot (at_level k h.act).slot s ≡ false = other_slot (at_level k h.act).slot s
          (phase_of_act o xs h.act c h.is) e in rw no refl

  -- what each query has, each candidate's query has
  each-query : (P : Task → Type 0) (cs : List QueriedDevice) → AllByRecursion P (filter_map (λ c. c.query) cs) →
      AllByRecursion (λ c. ForSome P c.query) cs
  each-query P [] a = tt
  each-query P (c ∷ cs) a = let k : ForSome P c.query × AllByRecursion P (filter_map (λ c. c.query) cs) =
      go c.query a in (k.0, each-query P cs k.1)
    where
      go : (x : Option Task) → AllByRecursion P (cons_option x (filter_map (λ c. c.query) cs)) →
          ForSome P x × AllByRecursion P (filter_map (λ c. c.query) cs)
      go None a = (tt, a)
      go (Some q) a = a

  pub operation-started : (r : KeptOperation) → (r.ranked ≡ false → is_query_phase s.phase ≡ true) →
      is_idle (last_of s xs) ≡ true →
      AllByRecursion (IsFree o m s xs) (queries o) → AllByRecursion (AreFree o m s xs) (ranks o m xs) →
      IsOperation m xs r o → IsOperation m (Act.Begun m run s ∷ xs) (operation_started s m r) o
  operation-started r query idle free free_levels h = record {
    req = h.req;
    kind = h.kind;
    target = h.target;
    begin = h.begin;
    over = h.over;
    past = (omega arith, h.past);
    turns = (idle, h.turns);
    distinct = h.distinct;
    levels_distinct = h.levels_distinct;
    queries_are = subst (λ qs. AllZip (IsQuerySlot o (Act.Begun m run s ∷ xs)) qs (queries o))
        (sym (queries-changed (level_started s m) (started s m) (λ l. refl) (λ l. refl) r.levels))
        (zip_map_each _ _ (IsFree o m s xs) (started s m) (query_slot-started o m run s xs few early)
        (kept_queries r.levels) (queries o) free h.queries_are);
    ranks_are = subst (λ ls. AllZip (IsLevel o (Act.Begun m run s ∷ xs)) ls (ranks o m (Act.Begun m run s ∷ xs)))
        (sym (tried-changed (level_started s m) (started s m) (λ l. refl) (λ l. refl) r.levels))
        (subst (λ ks. AllZip (IsLevel o (Act.Begun m run s ∷ xs)) (map (level_started s m) (tried_levels r.levels)) ks)
        (sym (ranks-same o m (Act.Begun m run s ∷ xs) m xs (each-begun (kept_queries r.levels) h.queries_are)))
        (zip_map_each _ _ (AreFree o m s xs) (level_started s m) (level-started o m run s xs few early)
        (tried_levels r.levels) (ranks o m xs) free_levels h.ranks_are));
    ranked_is = h.ranked_is ∙ ap (λ b. o.levelled || b) (sym (queries_concluded-same o m (Act.Begun m run s ∷ xs) m xs
        (each-begun (kept_queries r.levels) h.queries_are)));
    unranked = λ e. let u = h.unranked e in record {
      unlevelled = u.unlevelled;
      few = u.few;
      queried = (query e, u.queried);
      candidates = zip_map_each _ _ (λ c. ForSome (IsFree o m s xs) c.query) (level_started s m)
          (candidate-started (query e)) r.levels o.candidates (each-query (IsFree o m s xs) o.candidates free)
          u.candidates;
    };
  }

-- the record by the test whether it becomes known now
pub rank_by : (m : ℕ) (r : KeptOperation) (a b : Bool) → r.ranked ≡ a → list_all (is_queried m) r.levels ≡ b →
    ranked_if_queried m r ≡ cond (not a && b) (record r { ranked = true; levels = ranked_levels 1 r.levels }) r
rank_by m r a b e f = ap₂ (λ x y. cond (not x && y) (record r { ranked = true; levels = ranked_levels 1 r.levels }) r)
    e f

-- the record whose queries may be concluded now
module _ (o : Operation) (m : ℕ) (xs : List Act) where
  pub ranked-once : (r : KeptOperation) → ArePast m xs → AreInTurn xs → AreDistinct (queries o) →
      AreDistinct (slots_of o.levels) → r.req ≡ o.req → r.kind ≡ o.kind → r.target ≡ o.target → r.begin ≡ o.begin →
      r.over ≡ o.over → r.ranked ≡ false → IsUnranked o xs r.levels →
      IsOperation m xs (ranked_if_queried m r) o
  ranked-once r past turns distinct levels_distinct req kind target begin over e u =
      subst (λ k. IsOperation m xs k o)
      (sym (rank_by m r false (queries_concluded o m xs) e (queries_is o m xs r.levels queried)))
      (go (queries_concluded o m xs) refl)
    where
      queried : AllZip (IsQuerySlot o xs) (kept_queries r.levels) (queries o)
      queried = queries-zip o xs r.levels o.candidates u.candidates

      go : (q : Bool) → queries_concluded o m xs ≡ q →
          IsOperation m xs (cond q (record r { ranked = true; levels = ranked_levels 1 r.levels }) r) o
      go true f = record {
        req = req;
        kind = kind;
        target = target;
        begin = begin;
        over = over;
        past = past;
        turns = turns;
        distinct = distinct;
        levels_distinct = levels_distinct;
        queries_are = subst (λ qs. AllZip (IsQuerySlot o xs) qs (queries o)) (sym (queries-ranked 1 r.levels)) queried;
        ranks_are = ranks_known o m xs r.levels u f;
        ranked_is = sym (ap₂ ◌||◌ u.unlevelled f);
        unranked = λ k. cc;
      }
      go false f = record {
        req = req;
        kind = kind;
        target = target;
        begin = begin;
        over = over;
        past = past;
        turns = turns;
        distinct = distinct;
        levels_distinct = levels_distinct;
        queries_are = queried;
        ranks_are = ranks_unknown o m xs r.levels u f;
        ranked_is = e ∙ sym (ap₂ ◌||◌ u.unlevelled f);
        unranked = λ k. u;
      }

-- time passes
later-spent : (f : Bool) (e : Option ℕ) (m n : ℕ) → m ≤ n → (f || has_come e m) ≡ true → (f || has_come e n) ≡ true
later-spent true e m n le k = refl
later-spent false None m n le k = cc
later-spent false (Some at) m n le k = grind (arith, nat_tests, le, k)

later-concluded : (o : Operation) (xs : List Act) (m n : ℕ) → m ≤ n → (t : Task) → concluded t o.over m xs ≡ true →
    concluded t o.over n xs ≡ true
later-concluded o xs m n le t k = go (has_succeeded t o.over xs) k
  where
    go : (b : Bool) → (b || spent t o.over m xs) ≡ true → (b || spent t o.over n xs) ≡ true
    go true e = refl
    go false e = later-spent (failed t o.over xs == tries t) (end t xs) m n le e

later-all : (o : Operation) (xs : List Act) (m n : ℕ) → m ≤ n → (ts : List Task) →
    list_all (λ q. concluded q o.over m xs) ts ≡ true → list_all (λ q. concluded q o.over n xs) ts ≡ true
later-all o xs m n le [] e = refl
later-all o xs m n le (t ∷ ts) e = go (concluded t o.over m xs) refl (λ k. later-all o xs m n le ts k) e
  where
    go : (b : Bool) → concluded t o.over m xs ≡ b → (list_all (λ q. concluded q o.over m xs) ts ≡ true →
        list_all (λ q. concluded q o.over n xs) ts ≡ true) →
        (b && list_all (λ q. concluded q o.over m xs) ts) ≡ true →
        (concluded t o.over n xs && list_all (λ q. concluded q o.over n xs) ts) ≡ true
    go true k ih e = let now : concluded t o.over n xs ≡ true = later-concluded o xs m n le t k in rw now (ih e)
    go false k ih e = cc

-- what is known stays known, as long as what was concluded stays so and no candidate becomes capable
ranked-stays : (o : Operation) (m n : ℕ) (xs ys : List Act) → (queries_concluded o m xs ≡ true →
    queries_concluded o n ys ≡ true) → (queries_concluded o m xs ≡ true → capable o ys ≡ capable o xs) →
    (o.levelled || queries_concluded o m xs) ≡ true → (ranks o n ys ≡ ranks o m xs) ×
    ((o.levelled || queries_concluded o n ys) ≡ true)
ranked-stays o m n xs ys stays same e = go o.levelled refl (queries_concluded o m xs) refl e
  where
    go : (l : Bool) → o.levelled ≡ l → (q : Bool) → queries_concluded o m xs ≡ q → (l || q) ≡ true →
        (ranks o n ys ≡ ranks o m xs) × ((o.levelled || queries_concluded o n ys) ≡ true)
    go true k q f e = (
      ranks_by o n ys true (queries_concluded o n ys) k refl
          ∙ sym (ranks_by o m xs true (queries_concluded o m xs) k refl),
      ap (λ b. b || queries_concluded o n ys) k,
    )
    go false k true f e =
        let now : queries_concluded o n ys ≡ true = stays f in (
          ranks_by o n ys false true k now ∙ ap (ranked_from o.kind 1) (same f) ∙ sym (ranks_by o m xs false true k f),
          ap₂ ◌||◌ k now,
        )
    go false k false f e = cc

past-later : (m n : ℕ) (xs : List Act) → m ≤ n → ArePast m xs → ArePast n xs
past-later m n xs le a = each-map (λ (x : Act). moment_of x ≤ m) (λ (x : Act). moment_of x ≤ n) xs
    (λ x k. omega (arith, le, k)) a

pub operation-later : (o : Operation) (m n : ℕ) (xs : List Act) → m ≤ n → (r : KeptOperation) → IsOperation m xs r o →
    IsOperation n xs (at_moment n r) o
operation-later o m n xs le r h = go r.ranked refl
  where
    go : (b : Bool) → r.ranked ≡ b → IsOperation n xs (at_moment n r) o
    go true e =
        let k = ranked-stays o m n xs xs (λ f. later-all o xs m n le (queries o) f) (λ f. refl) (sym h.ranked_is ∙ e) in
        subst (λ w. IsOperation n xs w o)
        (sym (rank_by n (record r { moment = n }) true (list_all (is_queried n) r.levels) e refl)) (record {
          req = h.req;
          kind = h.kind;
          target = h.target;
          begin = h.begin;
          over = h.over;
          past = past-later m n xs le h.past;
          turns = h.turns;
          distinct = h.distinct;
          levels_distinct = h.levels_distinct;
          queries_are = h.queries_are;
          ranks_are = subst (AllZip (IsLevel o xs) (tried_levels r.levels)) (sym k.0) h.ranks_are;
          ranked_is = e ∙ sym k.1;
          unranked = h.unranked;
        })
    go false e = ranked-once o n xs (record r { moment = n }) (past-later m n xs le h.past) h.turns h.distinct
        h.levels_distinct h.req h.kind h.target h.begin h.over e (h.unranked e)

-- an exit that comes late leaves its slot as it was
same-late : (t : Task) (over m n : ℕ) (s : Slot) (exit : Exit) (listed : Bool) (xs : List Act) →
    same_slot t.slot s ≡ true → is_below n (limit t over xs) ≡ false →
    Same over m (Act.Ended n s exit listed ∷ xs) m xs t
same-late t over m n s exit listed xs p q = record {
  succeeded = rw (p, q) refl;
  spent_same = rw (p, q) refl;
  listed =
      rw (p, q) refl;
}

-- an exit of a query that is concluded comes late
abbrev pub IsLate : Operation → ℕ → Slot → List Act → Task → Type 0
IsLate o m s xs t = concluded t o.over m xs ≡ true → same_slot t.slot s ≡ true → is_below m (limit t o.over xs) ≡ false

-- an exit of a run that is alive
module _ (o : Operation) (m : ℕ) (s : Slot) (exit : Exit) (listed : Bool) (xs : List Act) (few : AreFew xs) (begun : ℕ)
    (alive : last_of s xs ≡ LastRun.Alive begun) where
  same-after : (t : Task) → IsLate o m s xs t → concluded t o.over m xs ≡ true →
      Same o.over m (Act.Ended m s exit listed ∷ xs) m xs t
  same-after t late e = go (same_slot t.slot s) refl
    where
      go : (b : Bool) → same_slot t.slot s ≡ b → Same o.over m (Act.Ended m s exit listed ∷ xs) m xs t
      go true p = same-late t o.over m m s exit listed xs p (late e p)
      go false p = same-ended_other t o.over m m s exit listed xs p

  each-ended : (ts : List Task) → AllByRecursion (IsLate o m s xs) ts → list_all (λ q. concluded q o.over m xs) ts ≡
      true → AllByRecursion (Same o.over m (Act.Ended m s exit listed ∷ xs) m xs) ts
  each-ended [] late e = tt
  each-ended (t ∷ ts) late e = go (concluded t o.over m xs) refl e (λ k. each-ended ts late.1 k)
    where
      go : (b : Bool) → concluded t o.over m xs ≡ b → (b && list_all (λ q. concluded q o.over m xs) ts) ≡ true →
          (list_all (λ q. concluded q o.over m xs) ts ≡ true →
          AllByRecursion (Same o.over m (Act.Ended m s exit listed ∷ xs) m xs) ts) →
          Same o.over m (Act.Ended m s exit listed ∷ xs) m xs t × AllByRecursion
          (Same o.over m (Act.Ended m s exit listed ∷ xs) m xs) ts
      go true k f ih = (same-after t late.0 k, ih f)
      go false k f ih = cc

  candidate-ended : is_query_phase s.phase ≡ true → (r : KeptLevel) (c : QueriedDevice) → IsCandidate o xs r c →
      IsCandidate o (Act.Ended m s exit listed ∷ xs) (level_ended s exit listed o.over m r) c
  candidate-ended e r c h = record {
    act = h.act;
    query = query-ended o m s exit listed xs few begun alive r.query c.query h.query;
    untried = h.untried;
    fit = h.fit;
    firsts = ap (map (ended s exit listed o.over m)) h.firsts ∙ rw other refl;
    is = λ k. subst (λ x. IsLevelSlot o (Act.Ended m s exit listed ∷ xs) x (act_task false o.kind k 0 c.device))
        (same k) (level_slot-ended o m s exit listed xs few begun alive (at_level k h.act)
        (act_task false o.kind k 0 c.device) (h.is k));
    ons = ap (map (ended s exit listed o.over m)) h.ons;
  }
    where
      other : same_slot h.act.slot s ≡ false
      other = other_slot h.act.slot s (phase_of_act o xs h.act c h.is) e

      same : (k : ℕ) → ended s exit listed o.over m (at_level k h.act) ≡ at_level k h.act
      same k = let no : same_slot (at_level k h.act).slot s ≡ false = other_slot (at_level k h.act).slot s
          (phase_of_act o xs h.act c h.is) e in rw no refl

  not_idle : is_idle (last_of s xs) ≡ false
  not_idle = ap is_idle alive

  abbrev after : KeptOperation → KeptOperation
  after r = record r { levels = map (level_ended s exit listed o.over m) r.levels }

  ended-levels : (r : KeptOperation) → (r.ranked ≡ false → is_query_phase s.phase ≡ true) →
      AllByRecursion (IsLate o m s xs) (queries o) → IsOperation m xs r o →
      IsOperation m (Act.Ended m s exit listed ∷ xs) (ranked_if_queried m (after r)) o
  ended-levels r query late h = go r.ranked refl
    where
      queried : AllZip (IsQuerySlot o (Act.Ended m s exit listed ∷ xs))
          (kept_queries (map (level_ended s exit listed o.over m) r.levels)) (queries o)
      queried =
          subst (λ qs. AllZip (IsQuerySlot o (Act.Ended m s exit listed ∷ xs)) qs (queries o))
          (sym (queries-changed (level_ended s exit listed o.over m) (ended s exit listed o.over m) (λ l. refl)
          (λ l. refl) r.levels))
          (zip_map _ _ (ended s exit listed o.over m) (query_slot-ended o m s exit listed xs few begun alive)
          (kept_queries r.levels) (queries o) h.queries_are)

      go : (b : Bool) → r.ranked ≡ b → IsOperation m (Act.Ended m s exit listed ∷ xs) (ranked_if_queried m (after r)) o
      go true e =
          let k = ranked-stays o m m xs (Act.Ended m s exit listed ∷ xs)
          (λ f. queries_concluded-same o m (Act.Ended m s exit listed ∷ xs) m xs (each-ended (queries o) late f) ∙ f)
          (λ f. capable-same o m (Act.Ended m s exit listed ∷ xs) m xs (each-ended (queries o) late f))
          (sym h.ranked_is ∙ e) in
          subst (λ w. IsOperation m (Act.Ended m s exit listed ∷ xs) w o)
          (sym (rank_by m (after r) true (list_all (is_queried m) (after r).levels) e refl)) (record {
            req = h.req;
            kind = h.kind;
            target = h.target;
            begin = h.begin;
            over = h.over;
            past = (omega arith, h.past);
            turns = (not_idle, h.turns);
            distinct = h.distinct;
            levels_distinct = h.levels_distinct;
            queries_are = queried;
            ranks_are = subst (λ ls. AllZip (IsLevel o (Act.Ended m s exit listed ∷ xs)) ls
                (ranks o m (Act.Ended m s exit listed ∷ xs)))
                (sym (tried-changed (level_ended s exit listed o.over m) (ended s exit listed o.over m) (λ l. refl)
                (λ l. refl) r.levels))
                (subst (AllZip (IsLevel o (Act.Ended m s exit listed ∷ xs)) (map (level_ended s exit listed o.over m)
                (tried_levels r.levels))) (sym k.0)
                (zip_map _ _ (level_ended s exit listed o.over m) (level-ended o m s exit listed xs few begun alive)
                (tried_levels r.levels) (ranks o m xs) h.ranks_are));
            ranked_is = e ∙ sym k.1;
            unranked = λ f. let wrong : true ≡ false = sym e ∙ f in cc;
          })
      go false e = let u = h.unranked e in
          ranked-once o m (Act.Ended m s exit listed ∷ xs) (after r) (omega arith, h.past) (not_idle, h.turns)
          h.distinct h.levels_distinct h.req h.kind h.target h.begin h.over e (record {
            unlevelled = u.unlevelled;
            few = u.few;
            queried = (query e, u.queried);
            candidates = zip_map _ _ (level_ended s exit listed o.over m) (candidate-ended (query e)) r.levels
                o.candidates u.candidates;
          })

  pub operation-ended : (r : KeptOperation) → (r.ranked ≡ false → is_query_phase s.phase ≡ true) →
      AllByRecursion (IsLate o m s xs) (queries o) → IsOperation m xs r o →
      IsOperation m (Act.Ended m s exit listed ∷ xs) (operation_ended s exit listed m r) o
  operation-ended r query late h =
      subst (λ over. IsOperation m (Act.Ended m s exit listed ∷ xs)
      (ranked_if_queried m (record r { levels = map (level_ended s exit listed over m) r.levels })) o) (sym h.over)
      (ended-levels r query late h)
