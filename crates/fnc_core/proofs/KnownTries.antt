-- The try that an operation waits for is of a registration that is known.
use Rattle.std.proofs.Common.{
  ℕ,
  List,
  [],
  ◌∷◌,
  Bool,
  true,
  false,
  ◌≡◌,
  refl,
  ap,
  ◌∙◌,
  Option,
  Some,
  None,
  cond,
  is_some,
  ◌==◌,
}
use Rattle.std.specs.Prelude.{find, option_and_then}
use Rattle.std.specs.List.{AllZip, AllByRecursion}
use Rattle.fnc_journal.specs.declared.definition.Definition.{Definition}
use Rattle.fnc_journal.specs.declared.definition.Registration.{Registration}
use Rattle.fnc_journal.specs.History.{History}
use Rattle.fnc_journal.specs.Found.{registration}
use Rattle.fnc_journal.specs.Slots.{Task, Operation}
use Rattle.fnc_journal.specs.Acts.{acts}
use Rattle.fnc_journal.specs.Standing.{standing}
use Rattle.fnc_journal.specs.Operations.{operation, open_operations}
use Rattle.fnc_journal.proofs.Closing.{open-found}
use Rattle.fnc_records.specs.declared.operation.Standing.{Standing}
use Rattle.fnc_records.specs.declared.slot.SlotRecord.{SlotRecord}
use Rattle.fnc_ops.specs.Kept.{Kept}
use Rattle.fnc_records.specs.KeptOperation.{KeptOperation}
use Rattle.fnc_records.specs.SlotFacts.{BothOr}
use Rattle.fnc_records.specs.OperationRecords as OperationRecords
use Rattle.fnc_records.specs.OperationRecords.{standing_slot, standing_at, waiting_at, is_idle, since}
use Rattle.fnc_ops.specs.OpsRecords.{is_of, waiting}
use Rattle.fnc_ops.specs.Stands.{Stands, StandsFor}
use Rattle.fnc_records.proofs.OperationAnswers.{IsShortSlot, standing_slot_is}
use Rattle.fnc_core.proofs.KnownTasks.{defined, known-operation, standing-known}

is_defined : (x : Option Registration) (d : Definition) → defined x ≡ Some d → is_some x ≡ true
is_defined None d e = cc
is_defined (Some r) d e = refl

some_standing : (a b : Standing) → ◌≡◌ {A = Option Standing} (Some a) (Some b) → b ≡ a
some_standing a b e = cc

module _ (h : History) where
  known-one : (r : KeptOperation) (o : Operation) → Stands h r o → operation o.req h ≡ Some o → (s : Standing) →
      OperationRecords.waiting r ≡ Some s → is_some (registration s.reg.0 h) ≡ true
  known-one r o z f s e = go (standing_slot r.moment r) (standing o r.moment (acts o.req h)) refl
      (standing_slot_is o r.moment (acts o.req h) r z.operation) e
    where
      told : (k : SlotRecord) (t : Task) → standing o r.moment (acts o.req h) ≡ Some t → k.reg.0 ≡ t.reg → (b : Bool) →
          cond b (Some (standing_at (since r.moment r) r.over k)) None ≡ Some s →
          is_some (registration s.reg.0 h) ≡ true
      told k t q same true g =
          let own : s.reg.0 ≡ k.reg.0 = ap (λ (x : Standing). x.reg.0)
          (some_standing (standing_at (since r.moment r) r.over k) s g) in
          ap (λ n. is_some (registration n h)) (own ∙ same)
          ∙ is_defined (registration t.reg h) t.definition
          (standing-known h o r.moment (acts o.req h) (known-operation h o.req o f) t q)
      told k t q same false g = cc

      go : (x : Option SlotRecord) (y : Option Task) → standing o r.moment (acts o.req h) ≡ y →
          BothOr (IsShortSlot o (acts o.req h)) x y →
          option_and_then (waiting_at (since r.moment r) r.over) x ≡ Some s →
          is_some (registration s.reg.0 h) ≡ true
      go None y q b g = cc
      go (Some k) None q b g = absurd b
      go (Some k) (Some t) q b g = told k t q b.is.reg (is_idle k.last) g

  known-among : (n : ℕ) (rs : List KeptOperation) (os : List Operation) → AllZip (Stands h) rs os →
      AllByRecursion (λ (o : Operation). operation o.req h ≡ Some o) os →
      (s : Standing) → waiting n rs ≡ Some s → is_some (registration s.reg.0 h) ≡ true
  known-among n [] os z f s e = cc
  known-among n (r ∷ rs) [] z f s e = absurd z
  known-among n (r ∷ rs) (o ∷ os) z f s e = go (r.req == n) e (λ g. known-among n rs os z.1 f.1 s g)
    where
      go : (b : Bool) → option_and_then OperationRecords.waiting (cond b (Some r) (find (is_of n) rs)) ≡ Some s →
          (waiting n rs ≡ Some s → is_some (registration s.reg.0 h) ≡ true) → is_some (registration s.reg.0 h) ≡ true
      go true g ih = known-one r o z.0 f.0 s g
      go false g ih = ih g

  pub waiting-known : (n : ℕ) (v : Kept) → StandsFor v h → (s : Standing) → waiting n v.operations ≡ Some s →
      is_some (registration s.reg.0 h) ≡ true
  waiting-known n v z s e = known-among n v.operations (open_operations h) z.each (open-found h) s e
