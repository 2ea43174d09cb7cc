-- What the records owe is what the journal owes, and its sum is exact where it fits.
use Rattle.std.proofs.Common.{
  ℕ,
  List,
  [],
  ◌∷◌,
  ◌≡◌,
  ◌<◌,
  ◌+◌,
  ◌*◌,
  ◌^◌,
  refl,
  ap,
  ap₂,
  ◌∙◌,
  arith,
  length,
  Result,
  Ok,
  Err,
  OkIff,
}
use Rattle.std.specs.Result.{result_unwrap_or}
use Rattle.std.specs.List.{AllZip}
use Rattle.fnc_journal.specs.declared.entry.Req.{Req}
use Rattle.fnc_journal.specs.History.{History}
use Rattle.fnc_journal.specs.Slots.{Operation}
use Rattle.fnc_journal.specs.Owed as Owed
use Rattle.fnc_journal.specs.Operations.{open_operations}
use Rattle.fnc_ops.specs.Kept.{Kept}
use Rattle.fnc_records.specs.KeptOperation.{KeptOperation}
use Rattle.fnc_records.specs.SlotRecords.{capped}
use Rattle.fnc_records.specs.OperationRecords.{owed_by}
use Rattle.fnc_ops.specs.OpsRecords.{owed_by_all, owed_with, owed}
use Rattle.fnc_ops.specs.Stands.{Stands, StandsFor, numbers}

-- a sum that fits is exact
pub owed-fits : (n : ℕ) (rs : List KeptOperation) → n + owed_by_all rs < 2 ^ 64 → owed_with n rs ≡ n + owed_by_all rs
owed-fits n [] small = omega arith
owed-fits n (r ∷ rs) small =
    let all : owed_by_all (r ∷ rs) ≡ owed_by r + owed_by_all rs = refl in
    let here : capped 64 (n + capped 64 (owed_by r)) ≡ n + owed_by r = omega (arith, all, small) in
    let rest : owed_with (n + owed_by r) rs ≡ n + owed_by r + owed_by_all rs =
    owed-fits (n + owed_by r) rs (omega (arith, all, small)) in
    ap (λ k. owed_with k rs) here ∙ rest ∙ omega (arith, all)

-- a number that fits is the one that is unwrapped
pub unwrapped : {E : Type 0} (r : Result ℕ E) (n most : ℕ) → OkIff r (n < 2 ^ 32) n → n < 2 ^ 32 →
    result_unwrap_or r most ≡ n
unwrapped (Ok k) n most e small = e.1
unwrapped (Err x) n most e small = absurd (e small)

numbers-length : (rs : List Req) → length rs ≡ length (numbers rs)
numbers-length [] = refl
numbers-length (r ∷ rs) = let ih : length rs ≡ length (numbers rs) = numbers-length rs in omega (arith, ih)

owes-one : (h : History) (r : KeptOperation) (o : Operation) → Stands h r o → owed_by r ≡ Owed.owed_by h o
owes-one h r o s = ap₂ (λ a b. a + 2 * b) (numbers-length r.members ∙ ap length s.waiting_are) s.untried_is

owes-each : (h : History) (rs : List KeptOperation) (os : List Operation) → AllZip (Stands h) rs os →
    owed_by_all rs ≡ Owed.owed_by_all h os
owes-each h [] [] z = refl
owes-each h [] (o ∷ os) z = absurd z
owes-each h (r ∷ rs) [] z = absurd z
owes-each h (r ∷ rs) (o ∷ os) z = ap₂ ◌+◌ (owes-one h r o z.0) (owes-each h rs os z.1)

pub owes-is : (v : Kept) (h : History) → StandsFor v h → owed v ≡ Owed.owed h
owes-is v h s = ap₂ ◌+◌ s.alive (owes-each h v.operations (open_operations h) s.each)
