-- Once all queries are concluded, the capable candidates are the levels that are tried.
use Rattle.std.proofs.Common.{
  ℕ,
  List,
  [],
  ◌∷◌,
  Bool,
  true,
  false,
  ◌≡◌,
  ◌≤◌,
  ◌<◌,
  ◌+◌,
  refl,
  ap₂,
  sym,
  subst,
  Option,
  Some,
  None,
  cond,
  arith,
  length,
}
use Rattle.std.specs.Prelude.{filter, filter_map}
use Rattle.std.specs.List.{AllZip, cons_option}
use Rattle.fnc_journal.specs.declared.limits.TheConstants.{MOST_DEVICES}
use Rattle.fnc_journal.specs.declared.entry.Kind.{Kind}
use Rattle.fnc_journal.specs.Device.{Device}
use Rattle.fnc_journal.specs.Slots.{Task, Operation, QueriedDevice, rank, ranked_from, is_split}
use Rattle.fnc_journal.specs.Acts.{Act}
use Rattle.fnc_journal.specs.Standing as Standing
use Rattle.fnc_journal.specs.Standing.{capable, ranks, queries_concluded}
use Rattle.fnc_records.specs.declared.slot.SlotRecord.{SlotRecord}
use Rattle.fnc_records.specs.KeptLevel.{KeptLevel}
use Rattle.fnc_records.specs.SlotRecords.{capped}
use Rattle.fnc_records.specs.LevelRecords.{is_capable, ranked, next_rank}
use Rattle.fnc_records.specs.LevelFacts.{IsQuerySlot, IsQuery, IsLevel}
use Rattle.fnc_records.specs.OperationRecords.{ranked_levels}
use Rattle.fnc_records.specs.OperationFacts.{IsCandidate, IsUnranked, kept_queries, tried_levels}
use Rattle.fnc_records.proofs.LevelAnswers.{capable_query_is}

-- the queries stay
pub queries-ranked : (k : ℕ) (ls : List KeptLevel) → kept_queries (ranked_levels k ls) ≡ kept_queries ls
queries-ranked k [] = refl
queries-ranked k (l ∷ ls) = ap₂ (λ (x : Option SlotRecord) (ys : List SlotRecord). cons_option x ys)
    (same (is_capable l)) (queries-ranked (next_rank k l) ls)
  where
    same : (b : Bool) → (cond b (ranked k l) l).query ≡ l.query
    same true = refl
    same false = refl

-- one device is no split
pub one_device : (kind : Kind) (d : Device) → is_split kind (d ∷ []) ≡ false
one_device Kind.On d = refl
one_device Kind.Off d = refl
one_device Kind.Reboot d = refl
one_device Kind.List d = refl
one_device Kind.Status d = refl

-- a candidate as the level of a number
level-ranked : (o : Operation) (xs : List Act) (k : ℕ) (l : KeptLevel) (c : QueriedDevice) → IsCandidate o xs l c →
    IsLevel o xs (ranked k l) (rank o.kind k (Some c.device ∷ []))
level-ranked o xs k l c h = rw (one_device o.kind c.device) (record {
  index = refl;
  unfit = h.fit;
  firsts = rw h.firsts (h.is k, tt);
  ons = rw h.ons tt;
})

-- the candidates from a number on
ranks-from : (o : Operation) (xs : List Act) (k : ℕ) (ls : List KeptLevel) (cs : List QueriedDevice) →
    k + length cs < 256 → AllZip (IsCandidate o xs) ls cs →
    AllZip (IsLevel o xs) (tried_levels (ranked_levels k ls))
    (ranked_from o.kind k (filter (λ c. Standing.capable_query o xs c.query) cs))
ranks-from o xs k [] [] few z = tt
ranks-from o xs k [] (c ∷ cs) few z = absurd z
ranks-from o xs k (l ∷ ls) [] few z = absurd z
ranks-from o xs k (l ∷ ls) (c ∷ cs) few z =
    rw (capable_query_is o 0 xs l.query c.query z.0.query)
    (go (Standing.capable_query o xs c.query) (λ n m. ranks-from o xs n ls cs m z.1))
  where
    fits : k + length cs + 1 < 256
    fits = omega (arith, few)

    next : capped 8 (k + 1) ≡ k + 1
    next = let f : k + length cs + 1 < 256 = fits in omega (arith, f)

    go : (b : Bool) → ((n : ℕ) → n + length cs < 256 → AllZip (IsLevel o xs) (tried_levels (ranked_levels n ls))
        (ranked_from o.kind n (filter (λ c. Standing.capable_query o xs c.query) cs))) →
        AllZip (IsLevel o xs) (tried_levels (cond b (ranked k l) l ∷ ranked_levels (cond b (capped 8 (k + 1)) k) ls))
        (ranked_from o.kind k (cond b (c ∷ filter (λ c. Standing.capable_query o xs c.query) cs)
        (filter (λ c. Standing.capable_query o xs c.query) cs)))
    go true ih = (
      level-ranked o xs k l c z.0,
      rw next (ih (k + 1) (let f : k + length cs + 1 < 256 = fits in
          omega (arith, f))),
    )
    go false ih = rw z.0.untried (ih k (let f : k + length cs + 1 < 256 = fits in omega (arith, f)))

-- the queries of the candidates are those of the operation
pub queries-zip : (o : Operation) (xs : List Act) (ls : List KeptLevel) (cs : List QueriedDevice) →
    AllZip (IsCandidate o xs) ls cs → AllZip (IsQuerySlot o xs) (kept_queries ls) (filter_map (λ c. c.query) cs)
queries-zip o xs [] [] z = tt
queries-zip o xs [] (c ∷ cs) z = absurd z
queries-zip o xs (l ∷ ls) [] z = absurd z
queries-zip o xs (l ∷ ls) (c ∷ cs) z = go l.query c.query z.0.query (queries-zip o xs ls cs z.1)
  where
    go : (x : Option SlotRecord) (y : Option Task) → IsQuery o xs x y → AllZip (IsQuerySlot o xs) (kept_queries ls)
        (filter_map (λ c. c.query) cs) →
        AllZip (IsQuerySlot o xs) (cons_option x (kept_queries ls)) (cons_option y (filter_map (λ c. c.query) cs))
    go None None h e = e
    go None (Some t) h e = absurd h
    go (Some q) None h e = absurd h
    go (Some q) (Some t) h e = (h, e)

-- before that none is tried
pub none_tried : (o : Operation) (xs : List Act) (ls : List KeptLevel) (cs : List QueriedDevice) →
    AllZip (IsCandidate o xs) ls cs → tried_levels ls ≡ []
none_tried o xs [] [] z = refl
none_tried o xs [] (c ∷ cs) z = absurd z
none_tried o xs (l ∷ ls) [] z = absurd z
none_tried o xs (l ∷ ls) (c ∷ cs) z = rw z.0.untried (none_tried o xs ls cs z.1)

-- the levels by the two tests
pub ranks_by : (o : Operation) (m : ℕ) (xs : List Act) (l q : Bool) → o.levelled ≡ l → queries_concluded o m xs ≡ q →
    ranks o m xs ≡ cond l o.levels (cond q (ranked_from o.kind 1 (capable o xs)) [])
ranks_by o m xs l q e f = ap₂ (λ a b. cond a o.levels (cond b (ranked_from o.kind 1 (capable o xs)) [])) e f

-- the levels of an operation are known once its queries are concluded
pub ranks_known : (o : Operation) (m : ℕ) (xs : List Act) (ls : List KeptLevel) → IsUnranked o xs ls →
    queries_concluded o m xs ≡ true →
    AllZip (IsLevel o xs) (tried_levels (ranked_levels 1 ls)) (ranks o m xs)
ranks_known o m xs ls h e =
    let few : length o.candidates ≤ MOST_DEVICES = h.few in
    subst (AllZip (IsLevel o xs) (tried_levels (ranked_levels 1 ls))) (sym (ranks_by o m xs false true h.unlevelled e))
    (ranks-from o xs 1 ls o.candidates (omega (arith, few)) h.candidates)

-- and none before
pub ranks_unknown : (o : Operation) (m : ℕ) (xs : List Act) (ls : List KeptLevel) → IsUnranked o xs ls →
    queries_concluded o m xs ≡ false →
    AllZip (IsLevel o xs) (tried_levels ls) (ranks o m xs)
ranks_unknown o m xs ls h e =
    subst (AllZip (IsLevel o xs) (tried_levels ls)) (sym (ranks_by o m xs false false h.unlevelled e))
    (rw (none_tried o xs ls o.candidates h.candidates) tt)
