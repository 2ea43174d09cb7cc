-- The operation that a request joins, by the records and by the journal.
use Rattle.std.proofs.Common.{
  ℕ,
  List,
  [],
  ◌∷◌,
  Bool,
  true,
  false,
  ◌≡◌,
  refl,
  ap,
  ap₂,
  ◌∙◌,
  Option,
  Some,
  None,
  cond,
  not,
  ◌&&◌,
  bytes_eq,
}
use Rattle.std.specs.Prelude.{find, option_map, unwrap_or}
use Rattle.std.specs.List.{AllZip}
use Rattle.fnc_journal.specs.declared.entry.Kind.{Kind}
use Rattle.fnc_journal.specs.declared.entry.Req.{Req}
use Rattle.fnc_journal.specs.declared.entry.Slot.{Slot}
use Rattle.fnc_journal.specs.History.{History}
use Rattle.fnc_journal.specs.Same.{same_kind}
use Rattle.fnc_journal.specs.Slots.{Task, Operation}
use Rattle.fnc_journal.specs.Acts.{acts}
use Rattle.fnc_journal.specs.Operations as Operations
use Rattle.fnc_journal.specs.Operations.{open_operations, stands_at, is_on, is_on_phase, joined}
use Rattle.fnc_records.specs.declared.slot.SlotRecord.{SlotRecord}
use Rattle.fnc_records.specs.KeptOperation.{KeptOperation}
use Rattle.fnc_records.specs.SlotFacts.{BothOr}
use Rattle.fnc_records.specs.OperationRecords.{standing_slot, is_joinable}
use Rattle.fnc_ops.specs.OpsRecords.{joinable}
use Rattle.fnc_ops.specs.Stands.{Stands, StandEach, AreAt}
use Rattle.fnc_records.proofs.OperationAnswers.{IsShortSlot, standing_slot_is}

on_of : (o : Operation) (h : History) (x : Option SlotRecord) (y : Option Task) → BothOr (IsShortSlot o (acts o.req h))
    x y →
    unwrap_or (option_map (λ (s : SlotRecord). is_on_phase s.slot.phase) x) false ≡ unwrap_or (option_map is_on y) false
on_of o h None None b = refl
on_of o h None (Some t) b = absurd b
on_of o h (Some s) None b = absurd b
on_of o h (Some s) (Some t) b = ap (λ (w : Slot). is_on_phase w.phase) b.is.slot

joins : (h : History) (m : ℕ) (kind : Kind) (target : List ℕ) (r : KeptOperation) (o : Operation) → Stands h r o →
    r.moment ≡ m → is_joinable kind target r ≡ Operations.is_joinable h m kind target o
joins h m kind target r o s at =
    ap₂ ◌&&◌ (ap₂ ◌&&◌ (ap (same_kind kind) s.operation.kind) (ap (bytes_eq target) s.operation.target))
    (ap not (on_of o h (standing_slot r.moment r) (stands_at h r.moment o) (standing_slot_is o r.moment (acts o.req h)
    r s.operation) ∙ ap (λ n. unwrap_or (option_map is_on (stands_at h n o)) false) at))

joined_among : (h : History) (m : ℕ) (kind : Kind) (target : List ℕ) (rs : List KeptOperation) (os : List Operation) →
    AllZip (Stands h) rs os → AreAt m rs →
    option_map (λ (r : KeptOperation). r.req) (find (is_joinable kind target) rs) ≡ option_map
    (λ (o : Operation). o.req) (find (Operations.is_joinable h m kind target) os)
joined_among h m kind target [] [] z a = refl
joined_among h m kind target [] (o ∷ os) z a = absurd z
joined_among h m kind target (r ∷ rs) [] z a = absurd z
joined_among h m kind target (r ∷ rs) (o ∷ os) z a =
    ap (λ b. option_map (λ (r : KeptOperation). r.req) (cond b (Some r) (find (is_joinable kind target) rs)))
    (joins h m kind target r o z.0 a.0)
    ∙ go (Operations.is_joinable h m kind target o) (joined_among h m kind target rs os z.1 a.1)
  where
    go : (b : Bool) → option_map (λ (r : KeptOperation). r.req) (find (is_joinable kind target) rs) ≡ option_map
        (λ (o : Operation). o.req) (find (Operations.is_joinable h m kind target) os) →
        option_map (λ (r : KeptOperation). r.req) (cond b (Some r) (find (is_joinable kind target) rs))
        ≡ option_map (λ (o : Operation). o.req) (cond b (Some o) (find (Operations.is_joinable h m kind target) os))
    go true e = ap Some z.0.operation.req
    go false e = e

number_of : (x : Option KeptOperation) → option_map (λ (r : Req). r.0)
    (option_map (λ (o : KeptOperation). record { 0 = o.req }) x) ≡ option_map (λ (r : KeptOperation). r.req) x
number_of None = refl
number_of (Some o) = refl

pub joined_is : (rs : List KeptOperation) (h : History) (m : ℕ) (kind : Kind) (target : List ℕ) (x : Option Req) →
    x ≡ joinable kind target rs → AreAt m rs → StandEach rs h →
    option_map (λ (r : Req). r.0) x ≡ option_map (λ (o : Operation). o.req) (joined h m kind target)
joined_is rs h m kind target x e a z =
    ap (option_map (λ (r : Req). r.0)) e ∙ number_of (find (is_joinable kind target) rs) ∙ joined_among h m kind target
    rs (open_operations h) z a
