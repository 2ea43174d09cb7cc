-- While time passes an operation waits for the try that it waited for, until its standing slot has come to its end.
use Rattle.std.proofs.Common.{
  ℕ,
  List,
  [],
  ◌∷◌,
  Bool,
  true,
  false,
  ◌≡◌,
  ◌≤◌,
  ◌==◌,
  ◌||◌,
  refl,
  ap,
  ap₂,
  sym,
  ◌∙◌,
  subst,
  Option,
  Some,
  None,
  cond,
  map,
  nat_le,
  eqb-true,
  eq-eqb,
}
use Rattle.std.proofs.lemmas.Bool.{both_ways}
use Rattle.std.specs.Prelude.{find, option_map, option_and_then, is_none}
use Rattle.std.specs.List.{AllZip, AllByRecursion}
use Rattle.fnc_journal.specs.declared.entry.Req.{Req}
use Rattle.fnc_journal.specs.History.{History}
use Rattle.fnc_journal.specs.Missing.{has_come}
use Rattle.fnc_journal.specs.Slots.{Task, Operation}
use Rattle.fnc_journal.specs.Acts.{Act, acts, end}
use Rattle.fnc_journal.specs.Standing as Standing
use Rattle.fnc_journal.specs.Operations.{operation, open_operations}
use Rattle.fnc_journal.proofs.Closing.{open-found}
use Rattle.fnc_stands.specs.Still.{ArePast, StandsStill, standing_end}
use Rattle.fnc_records.specs.declared.operation.Standing.{Standing as Try}
use Rattle.fnc_records.specs.declared.slot.SlotRecord.{SlotRecord}
use Rattle.fnc_records.specs.KeptOperation.{KeptOperation}
use Rattle.fnc_records.specs.SlotFacts.{IsSlot, BothOr}
use Rattle.fnc_records.specs.SlotRecords.{come_by}
use Rattle.fnc_records.specs.OperationFacts.{IsOperation}
use Rattle.fnc_records.specs.OperationRecords as OperationRecords
use Rattle.fnc_records.specs.OperationRecords.{
  standing_slot,
  waiting_at,
  expired_at,
  at_moment,
  at_moment_unless_ending,
}
use Rattle.fnc_records.proofs.Latest.{since_is}
use Rattle.fnc_records.proofs.OperationAnswers.{IsShortSlot, standing_slot_is}
use Rattle.fnc_records.proofs.OperationSteps.{operation-later}
use Rattle.fnc_ops.specs.declared.records.Expiry.{Expiry}
use Rattle.fnc_ops.specs.Kept.{Kept}
use Rattle.fnc_ops.specs.OpsRecords.{
  is_of,
  waiting,
  expiry_by,
  expiry_of,
  sooner,
  first_expiry,
  first_expired,
  moved,
  AllWaitBut,
}
use Rattle.fnc_ops.specs.Stands.{Stands, StandEach, AreBy}
use Rattle.fnc_ops.proofs.StandsExits.{moment-ranked, req-ranked}

-- what is known of each operation of a journal while time passes
abbrev pub StayWhereTheyStand : History → Type 0
StayWhereTheyStand h = (o : Operation) (a m : ℕ) → operation o.req h ≡ Some o → a ≤ m → ArePast a (acts o.req h) →
    has_come (standing_end o a (acts o.req h)) m ≡ false → StandsStill o a m (acts o.req h)

-- a slot has one record
one-record : (o : Operation) (xs : List Act) (a b : SlotRecord) (t : Task) → IsSlot o xs a t → IsSlot o xs b t → a ≡ b
one-record o xs a b t k l = λ i. record {
  slot = (k.slot ∙ sym l.slot) i;
  reg = record { 0 = (k.reg ∙ sym l.reg) i };
  kind = (k.kind ∙ sym l.kind) i;
  time = (k.time_is ∙ sym l.time_is) i;
  tries = (k.tries_is ∙ sym l.tries_is) i;
  delay = (k.delay_is ∙ sym l.delay_is) i;
  runs = (k.runs_are ∙ sym l.runs_are) i;
  failed = (k.failed_are ∙ sym l.failed_are) i;
  succeeded = (k.succeeded ∙ sym l.succeeded) i;
  listed = (k.listed ∙ sym l.listed) i;
  end = (k.end_is ∙ sym l.end_is) i;
  last = (k.last_is ∙ sym l.last_is) i;
  succeeded_at = (k.succeeded_at ∙ sym l.succeeded_at) i;
  failed_at = (k.failed_at ∙ sym l.failed_at) i;
}

same-record : (o : Operation) (xs : List Act) (a b : Option SlotRecord) (t : Option Task) →
    BothOr (IsShortSlot o xs) a t → BothOr (IsShortSlot o xs) b t → a ≡ b
same-record o xs None None None k l = refl
same-record o xs (Some a) (Some b) (Some t) k l = ap Some (one-record o xs a b t k.is l.is)
same-record o xs None (Some b) None k l = absurd l
same-record o xs (Some a) b None k l = absurd k
same-record o xs None b (Some t) k l = absurd k
same-record o xs (Some a) None (Some t) k l = absurd l

-- the end of a record's slot, which has not come
ahead-by : (m : ℕ) (x : Option ℕ) → come_by m x ≡ None → has_come x m ≡ false
ahead-by m None e = refl
ahead-by m (Some at) e = go (nat_le at m) e
  where
    go : (b : Bool) → cond b (Some at) None ≡ None → b ≡ false
    go true e = cc
    go false e = refl

end-ahead : (o : Operation) (m : ℕ) (xs : List Act) (s : Option SlotRecord) (t : Option Task) →
    BothOr (IsShortSlot o xs) s t → option_and_then (λ (s : SlotRecord). come_by m s.end) s ≡ None →
    has_come (option_and_then (λ t. end t xs) t) m ≡ false
end-ahead o m xs None None k e = refl
end-ahead o m xs None (Some t) k e = absurd k
end-ahead o m xs (Some s) None k e = absurd k
end-ahead o m xs (Some s) (Some t) k e = ahead-by m (end t xs) (ap (come_by m) (sym k.is.end_is) ∙ e)

-- what a record tells of the try that it waits for, at a moment
abbrev told_at : KeptOperation → ℕ → Option Try
told_at r n = option_and_then (waiting_at (OperationRecords.since n r) r.over) (standing_slot n r)

module _ (h : History) (law : StayWhereTheyStand h) (m : ℕ) where
  -- a record whose standing slot has not come to its end by then
  still-waits : (r : KeptOperation) (o : Operation) → Stands h r o → operation o.req h ≡ Some o → r.moment ≤ m →
      expired_at m r ≡ None → OperationRecords.waiting (at_moment m r) ≡ OperationRecords.waiting r
  still-waits r o s found le none = ap (told_at now) (moment-ranked m (record r { moment = m })) ∙ same
    where
      now : KeptOperation
      now = at_moment m r

      later : IsOperation m (acts o.req h) (at_moment m r) o
      later = operation-later o r.moment m (acts o.req h) le r s.operation

      was : BothOr (IsShortSlot o (acts o.req h)) (standing_slot r.moment r)
          (Standing.standing o r.moment (acts o.req h))
      was = standing_slot_is o r.moment (acts o.req h) r s.operation

      still : StandsStill o r.moment m (acts o.req h)
      still = law o r.moment m found le s.operation.past
          (end-ahead o m (acts o.req h) (standing_slot r.moment r) (Standing.standing o r.moment (acts o.req h)) was
          none)

      since : OperationRecords.since m (at_moment m r) ≡ OperationRecords.since r.moment r
      since =
          since_is o m (acts o.req h) (at_moment m r) later ∙ still.since_same
          ∙ sym (since_is o r.moment (acts o.req h) r s.operation)

      slot : standing_slot m (at_moment m r) ≡ standing_slot r.moment r
      slot =
          same-record o (acts o.req h) (standing_slot m (at_moment m r)) (standing_slot r.moment r)
          (Standing.standing o m (acts o.req h)) (standing_slot_is o m (acts o.req h) (at_moment m r) later)
          (subst (BothOr (IsShortSlot o (acts o.req h)) (standing_slot r.moment r)) (sym still.stands) was)

      over : (at_moment m r).over ≡ r.over
      over = later.over ∙ sym s.operation.over

      same : told_at (at_moment m r) m ≡ told_at r r.moment
      same =
          ap₂ (λ a b. option_and_then (waiting_at a b) (standing_slot m (at_moment m r))) since over
          ∙ ap (option_and_then (waiting_at (OperationRecords.since r.moment r) r.over)) slot

  -- two records of one number, of which that of a number waits for the same
  record WaitsAs (n : ℕ) (r s : KeptOperation) : Type 0 where
    req : r.req ≡ s.req
    waits : (s.req == n) ≡ true → OperationRecords.waiting r ≡ OperationRecords.waiting s

  waiting-as : (n : ℕ) (rs ss : List KeptOperation) → AllZip (WaitsAs n) rs ss → waiting n rs ≡ waiting n ss
  waiting-as n [] [] z = refl
  waiting-as n [] (s ∷ ss) z = absurd z
  waiting-as n (r ∷ rs) [] z = absurd z
  waiting-as n (r ∷ rs) (s ∷ ss) z =
      ap (λ k. option_and_then OperationRecords.waiting (cond (k == n) (Some r) (find (is_of n) rs))) z.0.req
      ∙ go (s.req == n) refl (waiting-as n rs ss z.1)
    where
      go : (b : Bool) → (s.req == n) ≡ b → waiting n rs ≡ waiting n ss →
          option_and_then OperationRecords.waiting (cond b (Some r) (find (is_of n) rs)) ≡ option_and_then
          OperationRecords.waiting (cond b (Some s) (find (is_of n) ss))
      go true k e = z.0.waits k
      go false k e = e

  -- where none has come to its end
  expiry-none : (r : KeptOperation) → expiry_of m r ≡ None → expired_at m r ≡ None
  expiry-none r e = go (expired_at m r) e
    where
      go : (x : Option ℕ) → expiry_by r x ≡ None → x ≡ None
      go None e = refl
      go (Some at) e = cc

  sooner-none : (a b : Option Expiry) → sooner a b ≡ None → (a ≡ None) × (b ≡ None)
  sooner-none None b e = (refl, e)
  sooner-none (Some a) None e = cc
  sooner-none (Some a) (Some b) e = cc

  all-still : (n : ℕ) (rs : List KeptOperation) (os : List Operation) → AllZip (Stands h) rs os →
      AllByRecursion (λ (o : Operation). operation o.req h ≡ Some o) os → AreBy m rs → first_expiry m rs ≡ None →
      AllZip (WaitsAs n) (map (at_moment m) rs) rs
  all-still n [] os z f a e = tt
  all-still n (r ∷ rs) [] z f a e = absurd z
  all-still n (r ∷ rs) (o ∷ os) z f a e =
      let none = sooner-none (expiry_of m r) (first_expiry m rs) e in (
        record {
          req = req-ranked m (record r { moment = m });
          waits = λ k. still-waits r o z.0 f.0 a.0 (expiry-none r none.0);
        },
        all-still n rs os z.1 f.1 a.1 none.1,
      )

  -- where one is taken, of another number
  one-still : (n req : ℕ) → (n == req) ≡ false → (r : KeptOperation) (o : Operation) → Stands h r o →
      operation o.req h ≡ Some o → r.moment ≤ m → WaitsAs n (at_moment_unless_ending req m r) r
  one-still n req other r o s f le = go (r.req == req) refl (expired_at m r) refl
    where
      taken : (r.req == req) ≡ true → (r.req == n) ≡ true → ⊥
      taken e k = both_ways (n == req) other (eq-eqb n req (sym (eqb-true r.req n k) ∙ eqb-true r.req req e))

      go : (b : Bool) → (r.req == req) ≡ b → (x : Option ℕ) → expired_at m r ≡ x →
          WaitsAs n (cond (b || is_none x) (at_moment m r) r) r
      go true e x k = record {
        req = req-ranked m (record r { moment = m });
        waits = λ q. absurd (taken e q);
      }
      go false e None k = record {
        req = req-ranked m (record r { moment = m });
        waits = λ q. still-waits r o s f le k;
      }
      go false e (Some at) k = record { req = refl; waits = λ q. refl }

  others-still : (n req : ℕ) → (n == req) ≡ false → (rs : List KeptOperation) (os : List Operation) →
      AllZip (Stands h) rs os → AllByRecursion (λ (o : Operation). operation o.req h ≡ Some o) os → AreBy m rs →
      AllZip (WaitsAs n) (map (at_moment_unless_ending req m) rs) rs
  others-still n req other [] os z f a = tt
  others-still n req other (r ∷ rs) [] z f a = absurd z
  others-still n req other (r ∷ rs) (o ∷ os) z f a =
      (one-still n req other r o z.0 f.0 a.0, others-still n req other rs os z.1 f.1 a.1)

  none-first : (rs : List KeptOperation) → None ≡ first_expired m rs → first_expiry m rs ≡ None
  none-first rs e = go (first_expiry m rs) e
    where
      go : (x : Option Expiry) → None ≡ option_map (λ (e : Expiry). e.req) x → x ≡ None
      go None e = refl
      go (Some e) f = cc

  -- of all records
  pub all-wait : (x : Option Req) (v w : Kept) → x ≡ first_expired m v.operations → AreBy m v.operations →
      StandEach v.operations h → w.operations ≡ moved x m v.operations → AllWaitBut x v w
  all-wait None v w e a z k =
      λ n.
      ap (waiting n) k
      ∙ waiting-as n (map (at_moment m) v.operations) v.operations
      (all-still n v.operations (open_operations h) z (open-found h) a (none-first v.operations e))
  all-wait (Some req) v w e a z k =
      λ n other.
      ap (waiting n) k
      ∙ waiting-as n (map (at_moment_unless_ending req.0 m) v.operations) v.operations
      (others-still n req.0 other v.operations (open_operations h) z (open-found h) a)
