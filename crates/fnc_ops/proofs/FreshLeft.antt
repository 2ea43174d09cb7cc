-- The records of an operation that begins have no more tries left than its slots are allowed.
use Rattle.std.proofs.Common.{ℕ, List, [], ◌∷◌, ◌++◌, ◌≡◌, ◌≤◌, ◌+◌, Option, Some, false, None, arith, map}
use Rattle.std.specs.Prelude.{option_map, filter_map}
use Rattle.std.specs.List.{cons_option}
use Rattle.fnc_journal.specs.declared.entry.Kind.{Kind}
use Rattle.fnc_journal.specs.Slots.{Task, Rank, QueriedDevice, tries, act_task, ranked_from, slots_of}
use Rattle.fnc_journal.specs.Owed.{tries_of}
use Rattle.fnc_records.specs.OperationFacts.{left_of, left_in, left_query, left_levels}
use Rattle.fnc_ops.specs.FreshRecords.{fresh_slot, fresh_level, fresh_candidate}
use Rattle.fnc_ops.proofs.FreshTries.{tries_of-append, ranked-tries}

module _ (target : List ℕ) (coin : ℕ) where
  slot-left : (t : Task) → left_of (fresh_slot target coin t) ≤ tries t
  slot-left t = omega arith

  slots-left : (ts : List Task) → left_in (map (fresh_slot target coin) ts) ≤ tries_of ts
  slots-left [] = omega arith
  slots-left (t ∷ ts) =
      let here : left_of (fresh_slot target coin t) ≤ tries t = slot-left t in
      let rest : left_in (map (fresh_slot target coin) ts) ≤ tries_of ts = slots-left ts in
      omega (arith, here, rest)

  pub levels-left : (ls : List Rank) → left_levels (map (fresh_level target coin) ls) ≤ tries_of (slots_of ls)
  levels-left [] = omega arith
  levels-left (l ∷ ls) =
      let all : tries_of (slots_of (l ∷ ls)) ≡ tries_of (l.firsts ++ l.ons) + tries_of (slots_of ls) =
      tries_of-append (l.firsts ++ l.ons) (slots_of ls) in
      let both : tries_of (l.firsts ++ l.ons) ≡ tries_of l.firsts + tries_of l.ons = tries_of-append l.firsts l.ons in
      let firsts : left_in (map (fresh_slot target coin) l.firsts) ≤ tries_of l.firsts = slots-left l.firsts in
      let ons : left_in (map (fresh_slot target coin) l.ons) ≤ tries_of l.ons = slots-left l.ons in
      let rest : left_levels (map (fresh_level target coin) ls) ≤ tries_of (slots_of ls) = levels-left ls in
      omega (arith, all, both, firsts, ons, rest)

  query-left : (x : Option Task) (ts : List Task) (n : ℕ) → n ≤ tries_of ts →
      left_query (option_map (fresh_slot target coin) x) + n ≤ tries_of (cons_option x ts)
  query-left None ts n k = omega (arith, k)
  query-left (Some t) ts n k = let here : left_of (fresh_slot target coin t) ≤ tries t = slot-left t in
      omega (arith, here, k)

  pub candidates-left : (kind : Kind) (k : ℕ) (cs : List QueriedDevice) →
      left_levels (map (fresh_candidate kind target coin) cs) ≤ tries_of (filter_map (λ (c : QueriedDevice). c.query)
      cs) + tries_of (slots_of (ranked_from kind k cs))
  candidates-left kind k [] = omega arith
  candidates-left kind k (c ∷ cs) =
      let asked : left_query (option_map (fresh_slot target coin) c.query) + tries_of
      (filter_map (λ (c : QueriedDevice). c.query) cs) ≤ tries_of (filter_map (λ (c : QueriedDevice). c.query)
      (c ∷ cs)) =
      query-left c.query (filter_map (λ (c : QueriedDevice). c.query) cs)
      (tries_of (filter_map (λ (c : QueriedDevice). c.query) cs)) (omega arith) in
      let acted : tries_of (slots_of (ranked_from kind k (c ∷ cs))) ≡ tries (act_task false kind 0 0 c.device) +
      tries_of (slots_of (ranked_from kind (k + 1) cs)) = ranked-tries kind k c cs in
      let act : left_of (fresh_slot target coin (act_task false kind 0 0 c.device)) ≤ tries
      (act_task false kind 0 0 c.device) = slot-left (act_task false kind 0 0 c.device) in
      let rest : left_levels (map (fresh_candidate kind target coin) cs) ≤ tries_of
      (filter_map (λ (c : QueriedDevice). c.query) cs) + tries_of (slots_of (ranked_from kind (k + 1) cs)) =
      candidates-left kind (k + 1) cs in
      omega (arith, asked, acted, act, rest)
