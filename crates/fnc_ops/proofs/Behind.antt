-- The record that comes to a moment, because its standing slot has come to its end by then, spoke at an earlier one.
use Rattle.std.proofs.Common.{
  ℕ,
  List,
  [],
  ◌∷◌,
  Bool,
  true,
  false,
  ◌≡◌,
  ◌≤◌,
  ◌<◌,
  ◌+◌,
  ◌==◌,
  ◌&&◌,
  ◌||◌,
  refl,
  ap,
  ◌∙◌,
  subst,
  Option,
  Some,
  None,
  cond,
  not,
  map,
  eq-eqb,
  arith,
  nat_lt,
  nat_le,
}
use Rattle.std.proofs.lemmas.Bool.Decides.{nat_tests}
use Rattle.std.specs.Prelude.{find, option_map, option_and_then, is_none}
use Rattle.std.specs.List.{list_any}
use Rattle.std.specs.Option.{option_or}
use Rattle.fnc_journal.specs.declared.entry.Req.{Req}
use Rattle.fnc_journal.specs.Missing.{has_come}
use Rattle.fnc_ops.specs.declared.records.Expiry.{Expiry}
use Rattle.fnc_records.specs.declared.slot.SlotRecord.{SlotRecord}
use Rattle.fnc_records.specs.KeptLevel.{KeptLevel}
use Rattle.fnc_records.specs.KeptOperation.{KeptOperation}
use Rattle.fnc_records.specs.SlotRecords.{come_by, is_concluded}
use Rattle.fnc_records.specs.LevelRecords.{open_of, open_query, is_lost_by, standing_in}
use Rattle.fnc_records.specs.OperationRecords.{
  first_query,
  is_kept,
  standing_slot,
  expired_at,
  at_moment,
  at_moment_unless_ending,
}
use Rattle.fnc_ops.specs.OpsRecords.{expiry_by, sooner, first_expiry, first_expired, moved}
use Rattle.fnc_ops.specs.Stands.{AreBy, behind, SpeaksAt}
use Rattle.fnc_ops.proofs.StandsExits.{moment-ranked, req-ranked}
use Rattle.fnc_ops.proofs.Waits.{numbers-map}

-- a slot at which an operation stands has not come to its end
module _ (m : ℕ) where
  not-come : (s : SlotRecord) → is_concluded m s ≡ false → has_come s.end m ≡ false
  not-come s e = go s.succeeded (s.failed == s.tries) e
    where
      go : (a b : Bool) → (a || (b || has_come s.end m)) ≡ false → has_come s.end m ≡ false
      go true b f = cc
      go false true f = cc
      go false false f = f

  some_slot : (s t : SlotRecord) → ◌≡◌ {A = Option SlotRecord} (Some s) (Some t) → s ≡ t
  some_slot s t e = cc

  in-query : (x : Option SlotRecord) (s : SlotRecord) → open_of m x ≡ Some s → has_come s.end m ≡ false
  in-query None s e = cc
  in-query (Some q) s e = go (is_concluded m q) refl e
    where
      go : (b : Bool) → is_concluded m q ≡ b → cond b None (Some q) ≡ Some s → has_come s.end m ≡ false
      go true k f = cc
      go false k f = subst (λ (w : SlotRecord). has_come w.end m ≡ false) (some_slot q s f) (not-come q k)

  in-queries : (ls : List KeptLevel) (s : SlotRecord) → first_query m ls ≡ Some s → has_come s.end m ≡ false
  in-queries [] s e = cc
  in-queries (l ∷ ls) s e = go (open_query m l) refl e (λ k. in-queries ls s k)
    where
      go : (x : Option SlotRecord) → open_query m l ≡ x → option_or x (first_query m ls) ≡ Some s →
          (first_query m ls ≡ Some s → has_come s.end m ≡ false) → has_come s.end m ≡ false
      go None k f ih = ih f
      go (Some q) k f ih = in-query l.query s (k ∙ f)

  in-firsts : (ss : List SlotRecord) (s : SlotRecord) → list_any (is_lost_by m) ss ≡ false →
      find (λ (t : SlotRecord). not t.succeeded) ss ≡ Some s → has_come s.end m ≡ false
  in-firsts [] s n e = cc
  in-firsts (t ∷ ts) s n e = go t.succeeded refl (t.failed == t.tries) (has_come t.end m) refl n e
      (λ a b. in-firsts ts s a b)
    where
      go : (a : Bool) → t.succeeded ≡ a → (b c : Bool) → has_come t.end m ≡ c →
          (((b || c) && not a) || list_any (is_lost_by m) ts) ≡ false →
          cond (not a) (Some t) (find (λ (t : SlotRecord). not t.succeeded) ts) ≡ Some s →
          (list_any (is_lost_by m) ts ≡ false → find (λ (t : SlotRecord). not t.succeeded) ts ≡ Some s →
          has_come s.end m ≡ false) → has_come s.end m ≡ false
      go true k true true h n f ih = ih n f
      go true k true false h n f ih = ih n f
      go true k false true h n f ih = ih n f
      go true k false false h n f ih = ih n f
      go false k true c h n f ih = cc
      go false k false true h n f ih = cc
      go false k false false h n f ih = subst (λ (w : SlotRecord). has_come w.end m ≡ false) (some_slot t s f) h

  in-ons : (ss : List SlotRecord) (s : SlotRecord) → find (λ (t : SlotRecord). not (is_concluded m t)) ss ≡ Some s →
      has_come s.end m ≡ false
  in-ons [] s e = cc
  in-ons (t ∷ ts) s e = go (is_concluded m t) refl e (λ k. in-ons ts s k)
    where
      go : (b : Bool) → is_concluded m t ≡ b → cond (not b) (Some t) (find (λ (t : SlotRecord). not (is_concluded m t))
          ts) ≡ Some s →
          (find (λ (t : SlotRecord). not (is_concluded m t)) ts ≡ Some s → has_come s.end m ≡ false) →
          has_come s.end m ≡ false
      go true k f ih = ih f
      go false k f ih = subst (λ (w : SlotRecord). has_come w.end m ≡ false) (some_slot t s f) (not-come t k)

  in-level : (l : KeptLevel) (s : SlotRecord) → is_kept m l ≡ true → standing_in m l ≡ Some s → has_come s.end m ≡ false
  in-level l s k e = go (find (λ (t : SlotRecord). not t.succeeded) l.firsts) refl e
    where
      unlost : (a b c : Bool) → (a && not (b || c)) ≡ true → c ≡ false
      unlost true true c f = cc
      unlost true false true f = cc
      unlost true false false f = refl
      unlost false b c f = cc

      go : (x : Option SlotRecord) → find (λ (t : SlotRecord). not t.succeeded) l.firsts ≡ x →
          option_or x (find (λ s. not (is_concluded m s)) l.ons) ≡ Some s → has_come s.end m ≡ false
      go None h f = in-ons l.ons s f
      go (Some t) h f = in-firsts l.firsts s (unlost l.tried l.unfit (list_any (is_lost_by m) l.firsts) k) (h ∙ f)

  found-kept : (ls : List KeptLevel) (l : KeptLevel) → find (is_kept m) ls ≡ Some l → is_kept m l ≡ true
  found-kept [] l e = cc
  found-kept (k ∷ ks) l e = go (is_kept m k) refl e (λ f. found-kept ks l f)
    where
      go : (b : Bool) → is_kept m k ≡ b → cond b (Some k) (find (is_kept m) ks) ≡ Some l →
          (find (is_kept m) ks ≡ Some l → is_kept m l ≡ true) → is_kept m l ≡ true
      go true h f ih = let same : k ≡ l = cc in subst (λ w. is_kept m w ≡ true) same h
      go false h f ih = ih f

  stands-open : (r : KeptOperation) (s : SlotRecord) → standing_slot m r ≡ Some s → has_come s.end m ≡ false
  stands-open r s e = go (first_query m r.levels) refl e
    where
      in-kept : (x : Option KeptLevel) → find (is_kept m) r.levels ≡ x → option_and_then (standing_in m) x ≡ Some s →
          has_come s.end m ≡ false
      in-kept None k f = cc
      in-kept (Some l) k f = in-level l s (found-kept r.levels l k) f

      go : (x : Option SlotRecord) → first_query m r.levels ≡ x →
          option_or x (option_and_then (standing_in m) (find (is_kept m) r.levels)) ≡ Some s → has_come s.end m ≡ false
      go None k f = in-kept (find (is_kept m) r.levels) refl f
      go (Some q) k f = in-queries r.levels s (k ∙ f)

-- an end that comes by a moment, and had not come by an earlier one
come-later : (n m : ℕ) (x : Option ℕ) (at : ℕ) → has_come x n ≡ false → come_by m x ≡ Some at → n < m
come-later n m None at e f = cc
come-later n m (Some k) at e f = go (nat_le k m) refl f
  where
    go : (b : Bool) → nat_le k m ≡ b → cond b (Some k) None ≡ Some at → n < m
    go true h g = grind (arith, nat_tests, e, h)
    go false h g = cc

-- the record that expires speaks at an earlier moment
expires-later : (m : ℕ) (r : KeptOperation) (at : ℕ) → expired_at m r ≡ Some at → r.moment < m
expires-later m r at e = go (standing_slot r.moment r) refl e
  where
    go : (x : Option SlotRecord) → standing_slot r.moment r ≡ x → option_and_then (λ (s : SlotRecord). come_by m s.end)
        x ≡ Some at → r.moment < m
    go None k f = cc
    go (Some s) k f = come-later r.moment m s.end at (stands-open r.moment r s k) f

-- no record comes to speak at an earlier moment than it did
module _ (m req : ℕ) where
  abbrev moved_one : KeptOperation → KeptOperation
  moved_one = at_moment_unless_ending req m

  now-not : (r : KeptOperation) → nat_lt (at_moment m r).moment m ≡ false
  now-not r = ap (λ n. nat_lt n m) (moment-ranked m (record r { moment = m })) ∙ grind (arith, nat_tests)

  behind-most : (rs : List KeptOperation) → behind m (map moved_one rs) ≤ behind m rs
  behind-most [] = omega arith
  behind-most (r ∷ rs) =
      go ((r.req == req) || is_none (expired_at m r)) (nat_lt r.moment m) refl (behind-most rs)
    where
      go : (b c : Bool) → nat_lt r.moment m ≡ c → behind m (map moved_one rs) ≤ behind m rs →
          cond (nat_lt (cond b (at_moment m r) r).moment m) (behind m (map moved_one rs) + 1)
          (behind m (map moved_one rs)) ≤ cond c (behind m rs + 1) (behind m rs)
      go true true k ih = rw (now-not r) (omega (arith, ih))
      go true false k ih = rw (now-not r) ih
      go false true k ih = rw k (omega (arith, ih))
      go false false k ih = rw k ih

  behind-here : (r : KeptOperation) (rs : List KeptOperation) → r.req ≡ req → r.moment < m →
      behind m (map moved_one (r ∷ rs)) < behind m (r ∷ rs)
  behind-here r rs same earlier =
      let here : (r.req == req) ≡ true = eq-eqb r.req req same in
      let was : nat_lt r.moment m ≡ true = grind (arith, nat_tests, earlier) in
      let rest : behind m (map moved_one rs) ≤ behind m rs = behind-most rs in
      rw (here, now-not r, was) (omega (arith, rest))

  behind-there : (r : KeptOperation) (rs : List KeptOperation) → behind m (map moved_one rs) < behind m rs →
      behind m (map moved_one (r ∷ rs)) < behind m (r ∷ rs)
  behind-there r rs rest = go ((r.req == req) || is_none (expired_at m r)) (nat_lt r.moment m) refl
    where
      go : (b c : Bool) → nat_lt r.moment m ≡ c →
          cond (nat_lt (cond b (at_moment m r) r).moment m) (behind m (map moved_one rs) + 1)
          (behind m (map moved_one rs)) < cond c (behind m rs + 1) (behind m rs)
      go true true k = rw (now-not r) (omega (arith, rest))
      go true false k = rw (now-not r) rest
      go false true k = rw k (omega (arith, rest))
      go false false k = rw k rest

-- of those that expire the first speaks at an earlier moment, so that fewer do once it has come
first-fewer : (m : ℕ) (rs : List KeptOperation) (e : Expiry) → first_expiry m rs ≡ Some e →
    behind m (map (at_moment_unless_ending e.req.0 m) rs) < behind m rs
first-fewer m [] e f = cc
first-fewer m (r ∷ rs) e f = go (expired_at m r) refl (first_expiry m rs) f (λ k. first-fewer m rs e k)
  where
    some_expiry : (a b : Expiry) → ◌≡◌ {A = Option Expiry} (Some a) (Some b) → a ≡ b
    some_expiry a b k = cc

    here : (at : ℕ) → expired_at m r ≡ Some at → record { req = record { 0 = r.req }; end = at } ≡ e →
        behind m (map (at_moment_unless_ending e.req.0 m) (r ∷ rs)) < behind m (r ∷ rs)
    here at k same = behind-here m e.req.0 r rs (ap (λ (w : Expiry). w.req.0) same) (expires-later m r at k)

    pick : (at : ℕ) (x : Expiry) → expired_at m r ≡ Some at → (b : Bool) →
        Some (cond b x (record { req = record { 0 = r.req }; end = at })) ≡ Some e →
        (Some x ≡ Some e → behind m (map (at_moment_unless_ending e.req.0 m) rs) < behind m rs) →
        behind m (map (at_moment_unless_ending e.req.0 m) (r ∷ rs)) < behind m (r ∷ rs)
    pick at x k true g ih = behind-there m e.req.0 r rs (ih g)
    pick at x k false g ih = here at k (some_expiry _ e g)

    go : (x : Option ℕ) → expired_at m r ≡ x → (y : Option Expiry) → sooner (expiry_by r x) y ≡ Some e →
        (y ≡ Some e → behind m (map (at_moment_unless_ending e.req.0 m) rs) < behind m rs) →
        behind m (map (at_moment_unless_ending e.req.0 m) (r ∷ rs)) < behind m (r ∷ rs)
    go None k y g ih = behind-there m e.req.0 r rs (ih g)
    go (Some at) k None g ih = here at k (some_expiry _ e g)
    go (Some at) k (Some x) g ih = pick at x k (nat_lt x.end at) g ih

pub fewer-behind : (m : ℕ) (rs : List KeptOperation) (req : Req) → first_expired m rs ≡ Some req →
    behind m (map (at_moment_unless_ending req.0 m) rs) < behind m rs
fewer-behind m rs req e = go (first_expiry m rs) refl e
  where
    go : (x : Option Expiry) → first_expiry m rs ≡ x → option_map (λ (w : Expiry). w.req) x ≡ Some req →
        behind m (map (at_moment_unless_ending req.0 m) rs) < behind m rs
    go None k f = cc
    go (Some w) k f = let same : w.req ≡ req = some_req w.req req f in
        subst (λ (q : Req). behind m (map (at_moment_unless_ending q.0 m) rs) < behind m rs) same (first-fewer m rs w k)
      where
        some_req : (a b : Req) → ◌≡◌ {A = Option Req} (Some a) (Some b) → a ≡ b
        some_req a b k = cc

-- a record at a later moment
moment-moved : (m : ℕ) (r : KeptOperation) → (at_moment m r).moment ≡ m
moment-moved m r = moment-ranked m (record r { moment = m })

req-moved : (m : ℕ) (r : KeptOperation) → (at_moment m r).req ≡ r.req
req-moved m r = req-ranked m (record r { moment = m })

pub by-moved : (m : ℕ) (x : Option Req) (rs : List KeptOperation) → AreBy m rs → AreBy m (moved x m rs)
by-moved m None [] a = tt
by-moved m None (r ∷ rs) a = (
  let now : (at_moment m r).moment ≡ m = moment-moved m r in
      omega (arith, now),
  by-moved m None rs a.1,
)
by-moved m (Some req) [] a = tt
by-moved m (Some req) (r ∷ rs) a =
    (go ((r.req == req.0) || is_none (expired_at m r)), by-moved m (Some req) rs a.1)
  where
    go : (b : Bool) → (cond b (at_moment m r) r).moment ≤ m
    go true = let now : (at_moment m r).moment ≡ m = moment-moved m r in omega (arith, now)
    go false = a.0

req-unless : (m req : ℕ) (r : KeptOperation) → (at_moment_unless_ending req m r).req ≡ r.req
req-unless m req r = go ((r.req == req) || is_none (expired_at m r))
  where
    go : (b : Bool) → (cond b (at_moment m r) r).req ≡ r.req
    go true = req-moved m r
    go false = refl

pub numbers-moved : (m : ℕ) (x : Option Req) (rs : List KeptOperation) →
    map (λ r. r.req) (moved x m rs) ≡ map (λ r. r.req) rs
numbers-moved m None rs = numbers-map (at_moment m) (req-moved m) rs
numbers-moved m (Some req) rs = numbers-map (at_moment_unless_ending req.0 m) (req-unless m req.0) rs

-- the record of the operation that comes to a moment speaks at it
pub told-moved : (m req : ℕ) (rs : List KeptOperation) →
    SpeaksAt m req (map (at_moment_unless_ending req m) rs)
told-moved m req [] = tt
told-moved m req (r ∷ rs) = (go (r.req == req) (is_none (expired_at m r)) refl, told-moved m req rs)
  where
    other : (b : Bool) → b ≡ false → b ≡ true → ⊥
    other b e f = cc

    go : (b c : Bool) → (r.req == req) ≡ b →
        ((cond (b || c) (at_moment m r) r).req == req) ≡ true → (cond (b || c) (at_moment m r) r).moment ≡ m
    go true c k e = moment-moved m r
    go false true k e = moment-moved m r
    go false false k e = absurd (other (r.req == req) k e)
