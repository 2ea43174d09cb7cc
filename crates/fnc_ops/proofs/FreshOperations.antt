-- The record of an operation that begins is that of the operation, of which nothing was started yet.
use Rattle.std.proofs.Common.{ℕ, List, [], ◌∷◌, Bool, true, false, ◌≡◌, ◌≤◌, ◌+◌, ◌-◌, refl, ap, sym, ◌∙◌, subst, cond, arith, length, map, ◌||◌}
use Rattle.std.specs.Prelude.{filter_map}
use Rattle.std.specs.List.{AllZip, list_all}
use Rattle.fnc_journal.specs.declared.limits.TheConstants.{MOST_DEVICES}
use Rattle.fnc_journal.specs.declared.entry.Scope.{Scope}
use Rattle.fnc_journal.specs.declared.plan.Candidate.{Candidate}
use Rattle.fnc_journal.specs.declared.plan.Plan.{Plan}
use Rattle.fnc_journal.specs.History.{History}
use Rattle.fnc_journal.specs.Plan.{Wanted, candidates_by, plan}
use Rattle.fnc_journal.specs.Slots.{
  Operation,
  Rank,
  QueriedDevice,
  is_levelled,
  queries,
  queried_from,
  ranked_from,
  rank_of,
  slots_of,
  all_slots,
}
use Rattle.fnc_journal.specs.Standing.{queries_concluded}
use Rattle.fnc_journal.specs.Owed.{untried, tries_of}
use Rattle.fnc_ops.specs.declared.ops.Operation.{Operation as Request}
use Rattle.fnc_stands.specs.Distinct.{AreDistinct}
use Rattle.fnc_records.specs.declared.slot.SlotRecord.{SlotRecord}
use Rattle.fnc_records.specs.KeptLevel.{KeptLevel}
use Rattle.fnc_records.specs.KeptOperation.{KeptOperation}
use Rattle.fnc_records.specs.LevelRecords.{is_queried}
use Rattle.fnc_records.specs.LevelFacts.{IsQuerySlot, IsLevel}
use Rattle.fnc_records.specs.OperationFacts.{
  IsOperation,
  IsCandidate,
  kept_queries,
  tried_levels,
  left_levels,
}
use Rattle.fnc_ops.specs.FreshRecords.{
  fresh_level,
  fresh_candidate,
  fresh_levels,
  unseen_operation,
  fresh_operation,
  begun_by,
}
use Rattle.fnc_ops.specs.Stands.{AreBounded}
use Rattle.fnc_records.proofs.Ranking.{ranks_by}
use Rattle.fnc_records.proofs.OperationSteps.{rank_by, ranked-once}
use Rattle.fnc_ops.proofs.StandsExits.{untried-ranked}
use Rattle.fnc_ops.proofs.FreshFacts.{levels-fresh, candidates-fresh, queries-distinct, queried-few}
use Rattle.fnc_records.proofs.LeftTries.{left-ranked}
use Rattle.fnc_ops.proofs.FreshLeft.{levels-left, candidates-left}
use Rattle.fnc_ops.proofs.FreshTries.{tries_of-append}

-- the levels of a plan are all tried, and ask nothing
levels-asked : (target : List ℕ) (coin : ℕ) (ls : List Rank) → kept_queries (map (fresh_level target coin) ls) ≡ []
levels-asked target coin [] = refl
levels-asked target coin (l ∷ ls) = levels-asked target coin ls

levels-tried-all : (target : List ℕ) (coin : ℕ) (ls : List Rank) → tried_levels (map (fresh_level target coin) ls) ≡
    map (fresh_level target coin) ls
levels-tried-all target coin [] = refl
levels-tried-all target coin (l ∷ ls) = ap (λ ks. fresh_level target coin l ∷ ks) (levels-tried-all target coin ls)

bare-by : (s : Scope) (cs : List Candidate) → is_levelled s ≡ true → candidates_by s cs ≡ []
bare-by Scope.Nothing cs k = cc
bare-by Scope.Name cs k = refl
bare-by (Scope.Pattern n) cs k = refl

-- a plan with levels has no candidates
pub planned-bare : (w : Wanted) (h : History) (p : Plan) → p ≡ plan w h → is_levelled p.scope ≡ true → p.candidates ≡ []
planned-bare w h p e levelled = ap (λ (q : Plan). q.candidates) e ∙ bare-by w.scope _
    (ap (λ (q : Plan). is_levelled q.scope) (sym e) ∙ levelled)

none_begun : (n : ℕ) → n ≡ n - 0
none_begun n = omega arith

module _ (r : Request) (p : Plan) (h : History) (tries : ℕ) (bounded : AreBounded h)
    (bare : is_levelled p.scope ≡ true → p.candidates ≡ [])
    (apart : AreDistinct (slots_of (map (rank_of r.kind h) p.levels)))
    (few : length p.candidates ≤ MOST_DEVICES) where
  abbrev o : Operation
  o = begun_by r p h

  -- with candidates
  asked-fresh : is_levelled p.scope ≡ false → IsOperation r.moment [] (fresh_operation tries o) o
  asked-fresh e =
      ranked-once o r.moment [] (unseen_operation tries o) tt tt (queries-distinct 0 h p.candidates) apart
      refl refl refl refl refl e (record {
        unlevelled = e;
        few = (let k : length (queried_from 0 h p.candidates) ≤ length p.candidates = queried-few 0 h p.candidates in
            omega (arith, k, few));
        queried = tt;
        candidates = subst (λ (b : Bool). AllZip (IsCandidate o [])
            (cond b (map (fresh_level r.target r.coin) o.levels) (map (fresh_candidate r.kind r.target r.coin)
            o.candidates)) o.candidates) (sym e) (candidates-fresh o h bounded 0 p.candidates);
      })

  none-asked : is_levelled p.scope ≡ true → queries o ≡ []
  none-asked e = ap (λ (cs : List Candidate). filter_map (λ (c : QueriedDevice). c.query) (queried_from 0 h cs))
      (bare e)

  -- with levels
  levelled-fresh : is_levelled p.scope ≡ true → IsOperation r.moment [] (unseen_operation tries o) o
  levelled-fresh e = record {
    req = refl;
    kind = refl;
    target = refl;
    begin = refl;
    over = refl;
    past = tt;
    turns = tt;
    distinct = queries-distinct 0 h p.candidates;
    levels_distinct = apart;
    queries_are = subst (AllZip (IsQuerySlot o []) (kept_queries (fresh_levels o))) (sym (none-asked e))
        (subst (λ (qs : List SlotRecord). AllZip (IsQuerySlot o []) qs [])
        (sym (ap kept_queries levels ∙ levels-asked r.target r.coin o.levels)) tt);
    ranks_are = subst (AllZip (IsLevel o []) (tried_levels (fresh_levels o)))
        (sym (ranks_by o r.moment [] true (queries_concluded o r.moment []) e refl))
        (subst (λ (ls : List KeptLevel). AllZip (IsLevel o []) ls o.levels)
        (sym (ap tried_levels levels ∙ levels-tried-all r.target r.coin o.levels))
        (levels-fresh o h bounded r.kind p.levels));
    ranked_is = e ∙ sym (ap (λ b. b || queries_concluded o r.moment []) e);
    unranked = λ f. let wrong : true ≡ false = sym e ∙ f in cc;
  }
    where
      levels : fresh_levels o ≡ map (fresh_level r.target r.coin) o.levels
      levels = ap (λ b. cond b (map (fresh_level r.target r.coin) o.levels)
          (map (fresh_candidate r.kind r.target r.coin) o.candidates)) e

  pub operation-fresh : IsOperation r.moment [] (fresh_operation tries o) o
  operation-fresh = go (is_levelled p.scope) refl
    where
      go : (b : Bool) → is_levelled p.scope ≡ b → IsOperation r.moment [] (fresh_operation tries o) o
      go true e = subst (λ (k : KeptOperation). IsOperation r.moment [] k o)
          (sym (rank_by r.moment (unseen_operation tries o) true (list_all (is_queried r.moment) (fresh_levels o))
          e refl))
          (levelled-fresh e)
      go false e = asked-fresh e

  -- where these are the allowed tries of all its slots, none of which was made
  pub untried-fresh : tries ≡ tries_of (all_slots o) → (fresh_operation tries o).untried ≡ untried o []
  untried-fresh counted =
      untried-ranked r.moment (unseen_operation tries o) ∙ counted ∙ none_begun (tries_of (all_slots o))

  -- and it has no more tries left than all its slots are allowed
  pub left-fresh : left_levels (fresh_operation tries o).levels ≤ tries_of (all_slots o)
  left-fresh =
      let same : left_levels (fresh_operation tries o).levels ≡ left_levels (fresh_levels o) =
      left-ranked r.moment (unseen_operation tries o) in
      let all : tries_of (all_slots o) ≡ tries_of (queries o) + tries_of
      (slots_of (cond (is_levelled p.scope) o.levels (ranked_from r.kind 1 o.candidates))) =
      tries_of-append (queries o)
      (slots_of (cond (is_levelled p.scope) o.levels (ranked_from r.kind 1 o.candidates))) in
      let most : left_levels (fresh_levels o) ≤ tries_of (queries o) + tries_of
      (slots_of (cond (is_levelled p.scope) o.levels (ranked_from r.kind 1 o.candidates))) =
      go (is_levelled p.scope) in
      omega (arith, same, all, most)
    where
      go : (b : Bool) → left_levels (cond b (map (fresh_level r.target r.coin) o.levels)
          (map (fresh_candidate r.kind r.target r.coin) o.candidates))
          ≤ tries_of (queries o) + tries_of (slots_of (cond b o.levels (ranked_from r.kind 1 o.candidates)))
      go true = let most : left_levels (map (fresh_level r.target r.coin) o.levels) ≤ tries_of (slots_of o.levels) =
          levels-left r.target r.coin o.levels in omega (arith, most)
      go false = candidates-left r.target r.coin r.kind 1 o.candidates
