-- What is owed after an input that is no request: as much as before, but for the exit of a run that has come.
use Rattle.std.proofs.Common.{
  ℕ,
  List,
  [],
  ◌∷◌,
  Bool,
  true,
  false,
  ◌≡◌,
  ◌<◌,
  ◌+◌,
  ◌-◌,
  ◌*◌,
  ◌==◌,
  refl,
  ap,
  ap₂,
  ◌∙◌,
  Option,
  Some,
  None,
  arith,
  length,
}
use Rattle.std.specs.Prelude.{option_map}
use Rattle.std.specs.List.{list_any}
use Rattle.fnc_journal.specs.declared.event.Ended.{Ended}
use Rattle.fnc_journal.specs.declared.event.Event.{Event}
use Rattle.fnc_journal.specs.declared.entry.Exit.{Exit}
use Rattle.fnc_journal.specs.declared.entry.Slot.{Slot}
use Rattle.fnc_journal.specs.History.{History}
use Rattle.fnc_journal.specs.Slots.{Operation, all_slots}
use Rattle.fnc_journal.specs.Acts.{Act, acts, begun, cons_act, slot_of_run}
use Rattle.fnc_journal.specs.Owed.{owed, owed_by, owed_by_all, tries_of}
use Rattle.fnc_journal.specs.Operations.{open_operations, unanswered}
use Rattle.fnc_journal.specs.Startable.{Begun, alive_runs, is_alive}
use Rattle.fnc_journal.specs.Lawful.{Lawful}
use Rattle.fnc_journal.proofs.Frames.{at, is_waiting, is_running, open_operations-frame, alive_runs-frame}
use Rattle.fnc_journal.proofs.Running.{alive-listed}
use Rattle.fnc_ops.specs.Stands.{exit_entry}
use Rattle.fnc_ops.proofs.AliveCounts.{alive-ended}

-- journals of which each operation owes the same
pub owed_by_all-same : (g h : History) → ((o : Operation) → owed_by g o ≡ owed_by h o) → (os : List Operation) →
    owed_by_all g os ≡ owed_by_all h os
owed_by_all-same g h e [] = refl
owed_by_all-same g h e (o ∷ os) = ap₂ ◌+◌ (e o) (owed_by_all-same g h e os)

-- an entry that neither asks, replies, starts nor ends leaves what is owed
pub owed-frame : (m : ℕ) (event : Event) (h : History) → is_waiting event ≡ false → is_running event ≡ false →
    owed (at m event ∷ h) ≡ owed h
owed-frame m event h q r =
    ap₂ ◌+◌ (ap length (alive_runs-frame m event h r))
    (ap (owed_by_all (at m event ∷ h)) (open_operations-frame m event h q)
    ∙ owed_by_all-same (at m event ∷ h) h (each event q r) (open_operations h))
  where
    each : (event : Event) → is_waiting event ≡ false → is_running event ≡ false → (o : Operation) →
        owed_by (at m event ∷ h) o ≡ owed_by h o
    each (Event.Ask ask) q r o = cc
    each (Event.Reply reply) q r o = cc
    each (Event.Start start) q r o = cc
    each (Event.Exit ended) q r o = cc
    each _ q r o = refl

-- an exit starts nothing
begun-ended : (m : ℕ) (exit : Exit) (listed : Bool) (x : Option Slot) (xs : List Act) →
    begun (cons_act (option_map (λ slot. Act.Ended m slot exit listed) x) xs) ≡ begun xs
begun-ended m exit listed None xs = refl
begun-ended m exit listed (Some s) xs = refl

any_one : (n : ℕ) (bs : List Begun) → list_any (λ (b : Begun). n == b.run) bs ≡ true → 0 < length bs
any_one n [] e = cc
any_one n (b ∷ bs) e = omega arith

-- the exit of a run that is alive is owed no more
pub owed-exit : (h : History) → Lawful h → (m : ℕ) (over : Ended) → is_alive over.run.0 h ≡ true →
    owed (exit_entry m over ∷ h) + 1 ≡ owed h
owed-exit h l m over a =
    let less : length (alive_runs h) - 1 ≡ length (alive_runs (exit_entry m over ∷ h)) = alive-ended h l m over a in
    let some : 0 < length (alive_runs h) = any_one over.run.0 (alive_runs h) (alive-listed over.run.0 h ∙ a) in
    let rest : owed_by_all (exit_entry m over ∷ h) (open_operations h) ≡ owed_by_all h (open_operations h) =
    owed_by_all-same (exit_entry m over ∷ h) h each (open_operations h) in
    let now : owed (exit_entry m over ∷ h) ≡ length (alive_runs (exit_entry m over ∷ h)) + owed_by_all
    (exit_entry m over ∷ h) (open_operations h) = refl in
    let before : owed h ≡ length (alive_runs h) + owed_by_all h (open_operations h) = refl in
    omega (arith, less, some, rest, now, before)
  where
    each : (o : Operation) → owed_by (exit_entry m over ∷ h) o ≡ owed_by h o
    each o = ap (λ n. length (unanswered o.req h) + 2 * (tries_of (all_slots o) - n))
        (begun-ended m over.exit over.listed (slot_of_run over.run.0 (acts o.req h)) (acts o.req h))
