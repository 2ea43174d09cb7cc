-- What the records of all operations say is what the journal says.
use Rattle.std.proofs.Common.{ℕ, List, [], ◌∷◌, ◌≡◌, refl, ap, sym, ◌∙◌, subst, Option, Some, None, cond, is_some}
use Rattle.std.specs.Prelude.{find}
use Rattle.std.specs.List.{AllZip}
use Rattle.std.specs.Option.{option_or}
use Rattle.fnc_journal.specs.declared.entry.Answer.{Answer}
use Rattle.fnc_journal.specs.History.{History}
use Rattle.fnc_journal.specs.Slots.{Operation}
use Rattle.fnc_journal.specs.Acts.{acts}
use Rattle.fnc_journal.specs.Operations.{is_due, due_to, first_due, open_operations}
use Rattle.fnc_ops.specs.declared.ops.Due.{Due}
use Rattle.fnc_records.specs.KeptOperation.{KeptOperation}
use Rattle.fnc_records.specs.OperationRecords as OperationRecords
use Rattle.fnc_records.specs.OperationFacts.{IsOperation}
use Rattle.fnc_ops.specs.OpsRecords as OpsRecords
use Rattle.fnc_ops.specs.OpsRecords.{DueTo, shown}
use Rattle.fnc_ops.specs.Stands.{Stands, StandEach, AreAt, IsFirstDue}
use Rattle.fnc_records.proofs.OperationAnswers.{due_is}
use Rattle.fnc_journal.specs.Due.{due}

abbrev Found : History → ℕ → Option DueTo → Option Operation → Type 0
Found h m None None = Unit {0}
Found h m None (Some o) = ⊥
Found h m (Some d) None = ⊥
Found h m (Some d) (Some o) = (o.req ≡ d.req) × (due_to h m o ≡ Some d.answer)

-- the answer that is due to one of them
due_of : (h : History) (m : ℕ) (r : KeptOperation) (o : Operation) → Stands h r o → r.moment ≡ m →
    OperationRecords.due m r ≡ due_to h m o
due_of h m r o s at =
    due_is o m (acts o.req h) r (subst (λ n. IsOperation n (acts o.req h) r o) at s.operation)
    ∙ ap (λ b. due o m b (acts o.req h)) s.confirmed_is

found : (h : History) (m : ℕ) (rs : List KeptOperation) (os : List Operation) → AllZip (Stands h) rs os → AreAt m rs →
    Found h m (OpsRecords.first_due m rs) (find (is_due h m) os)
found h m [] [] z a = tt
found h m [] (o ∷ os) z a = absurd z
found h m (r ∷ rs) [] z a = absurd z
found h m (r ∷ rs) (o ∷ os) z a = rw (due_of h m r o z.0 a.0) (go (due_to h m o) refl (found h m rs os z.1 a.1))
  where
    go : (x : Option Answer) → due_to h m o ≡ x → Found h m (OpsRecords.first_due m rs) (find (is_due h m) os) →
        Found h m (option_or (OpsRecords.due_to r.req x) (OpsRecords.first_due m rs))
        (cond (is_some x) (Some o) (find (is_due h m) os))
    go None e f = f
    go (Some x) e f = (sym z.0.operation.req, e)

pub due_found : (rs : List KeptOperation) (h : History) (m : ℕ) (d : Option Due) →
    shown d ≡ OpsRecords.first_due m rs → AreAt m rs → StandEach rs h → IsFirstDue h m d (first_due h m)
due_found rs h m d e a z = go d (first_due h m) (subst (λ x. Found h m x (first_due h m)) (sym e)
    (found h m rs (open_operations h) z a))
  where
    go : (d : Option Due) (o : Option Operation) → Found h m (shown d) o → IsFirstDue h m d o
    go None None f = f
    go None (Some o) f = f
    go (Some d) None f = f
    go (Some d) (Some o) f = f
