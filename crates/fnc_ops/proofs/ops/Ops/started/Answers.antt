-- The records stand for the journal with the start.
use Rattle.std.proofs.Common.{◌≡◌, ◌∷◌, ◌∙◌, ◌≤◌, ◌<◌, ◌+◌, ◌^◌, ℕ, map, refl, sym, ap, subst, arith, length}
use Rattle.fnc_journal.specs.declared.limits.TheConstants.{GREATEST_MOMENT}
use Rattle.fnc_journal.specs.declared.event.Start.{Start}
use Rattle.fnc_journal.specs.declared.entry.Slot.{Slot}
use Rattle.fnc_journal.specs.History.{History}
use Rattle.fnc_journal.specs.Owed.{owed}
use Rattle.fnc_journal.specs.Startable.{alive_runs}
use Rattle.fnc_ops.specs.Kept.{Kept}
use Rattle.fnc_records.specs.OperationRecords.{only, standing_slot, start_standing}
use Rattle.fnc_ops.specs.OpsRecords.{waiting}
use Rattle.fnc_records.specs.SlotRecords.{capped}
use Rattle.fnc_ops.specs.Stands.{StandsFor, StandEach, AreAt, Try, AwaitsTry, start_entry, of_try}
use Rattle.fnc_ops.proofs.AliveCounts.{alive-started, alive-few}
use Rattle.fnc_records.proofs.SlotSteps.{capped_32}
use Rattle.fnc_ops.proofs.StandsOwed.{owed-started}
use Rattle.fnc_ops.proofs.StandsSteps.{stands-started}
use Rattle.fnc_ops.proofs.Starts.{at-started, each-awaits, settled-started, waits-started}
use Rattle.fnc_ops.proofs.Waits.{req-started, waiting-only}
use Rattle.fnc_ops.proofs.ops.Ops.started.Goals as goal

-- a start of the slot of a try is the start as the try has it
same-start : (y : Try) (start : Start) → start.slot ≡ y.task.slot → of_try y start ≡ start
same-start y start own = ap (λ (s : Slot). record start { slot = s }) (sym own)

-- the journal with the start as the try has it is the journal with the start
same-history : (m : ℕ) (h : History) (y : Try) (start : Start) → start.slot ≡ y.task.slot →
    start_entry m (of_try y start) ∷ h ≡ start_entry m start ∷ h
same-history m h y start own = ap (λ (s : Start). start_entry m s ∷ h) (same-start y start own)

-- the records of the operations that are open
each-started : (c : goal.After-kept_started) (y : Try) → AwaitsTry c.args.journal.now.history c.args.moment
    c.args.start.now.req.0 y →
    StandEach (map (only c.args.start.now.req.0 (start_standing c.args.moment)) c.args.self.now.operations)
    (start_entry c.args.moment (of_try y c.args.start.now) ∷ c.args.journal.now.history)
each-started c y awaits =
    let early : c.args.moment ≤ GREATEST_MOMENT = c.requires.early in
    stands-started c.args.journal.now.history c.args.moment c.args.start.now y c.requires.few (omega (arith, early))
    c.args.self.now.operations c.requires.stands.each c.requires.at c.requires.settled
    (each-awaits c.args.journal.now.history c.args.moment c.args.start.now.req.0 y awaits)

pub returns-clause-stands : goal.returns-clause-stands
returns-clause-stands c y awaits own =
    let h : History = c.args.journal.now.history in
    let few : length h + 1 < 2 ^ 32 = c.requires.few in
    let most : length (alive_runs h) ≤ length h = alive-few h in
    subst (λ (v : Kept). StandsFor v (start_entry c.args.moment c.args.start.now ∷ h)) (sym c.kept_started.ensures)
    (record {
      each = subst (StandEach (map (only c.args.start.now.req.0 (start_standing c.args.moment))
          c.args.self.now.operations))
          (same-history c.args.moment h y c.args.start.now own) (each-started c y awaits);
      alive = ap (λ n. capped 32 (n + 1)) c.requires.stands.alive
          ∙ capped_32 (length (alive_runs h) + 1) (omega (arith, few, most))
          ∙ sym (alive-started h c.requires.lawful c.args.moment c.args.start.now c.requires.number);
    })

pub returns-clause-at : goal.returns-clause-at
returns-clause-at c =
    subst (λ (v : Kept). AreAt c.args.moment v.operations) (sym c.kept_started.ensures)
    (at-started c.args.moment c.args.start.now.req.0 c.args.self.now.operations c.requires.at)

pub returns-clause-settled : goal.returns-clause-settled
returns-clause-settled c =
    settled-started c.args.journal.now.history c.args.moment c.args.start.now c.args.self.now.operations
    c.requires.stands.each c.requires.at c.requires.settled

pub returns-clause-others : goal.returns-clause-others
returns-clause-others c n other =
    ap (λ (v : Kept). waiting n v.operations) c.kept_started.ensures
    ∙ waiting-only c.args.start.now.req.0 (start_standing c.args.moment)
    (λ r. req-started c.args.moment (standing_slot c.args.moment r) r) n other c.args.self.now.operations

pub returns-clause-waits : goal.returns-clause-waits
returns-clause-waits c y awaits =
    ap (λ (v : Kept). waiting c.args.start.now.req.0 v.operations) c.kept_started.ensures
    ∙ waits-started c.args.journal.now.history c.args.moment (of_try y c.args.start.now) y refl awaits
    c.requires.settled
    c.args.self.now.operations c.requires.stands.each c.requires.at (each-started c y awaits)

pub returns-clause-owes : goal.returns-clause-owes
returns-clause-owes c y awaits own =
    subst (λ (g : History). owed g + 1 ≡ owed c.args.journal.now.history)
    (same-history c.args.moment c.args.journal.now.history y c.args.start.now own)
    (owed-started c.args.journal.now.history c.args.moment c.args.start.now y c.requires.lawful c.requires.number
    c.requires.settled c.args.self.now.operations c.requires.stands.each c.requires.at awaits)
