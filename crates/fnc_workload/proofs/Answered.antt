-- Where all lines of a workload were made, each request has its answer.
use Rattle.std.proofs.Common.{ℕ, ◌≡◌, ◌<◌, ◌+◌, true, sym, ◌∙◌}
use Rattle.fnc_journal.specs.History.{History}
use Rattle.fnc_journal.specs.Found.{asks, is_answered, replies}
use Rattle.fnc_journal.specs.Lawful.{Lawful}
use Rattle.fnc_command.specs.declared.command.Mode.{Mode}
use Rattle.fnc_command.specs.Lines.{said}
use Rattle.fnc_answered.specs.Counts.{is_levels, is_no_device, is_passed, is_time, replies_that}
use Rattle.fnc_answered.specs.Done.{IsDone, Unconfirmed}
use Rattle.fnc_answered.specs.Plain.{PlainDevices}
use Rattle.fnc_core.specs.Cored.{Cored, Sound}
use Rattle.fnc_replay.specs.Rests.{Rests}
use Rattle.fnc_made.specs.Made.{made_text}
use Rattle.fnc_made.specs.Plain.{PlainRead}
use Rattle.fnc_made.specs.declared.made.Made.{Made}
use Rattle.fnc_workload.proofs.Over.{is-done}
use Rattle.fnc_workload.proofs.Plain.{devices-plain, unconfirmed}
use Rattle.fnc_workload.specs.Lines.{Course, IsWhole}
use Rattle.fnc_workload.specs.Worked.{IsAnswered, IsOver}

-- the laws of lawful journals that have nothing left to be done
pub record Laws : Type 0 where
  pub answered :
      (h : History) (m : ℕ) → Lawful h → PlainDevices h → IsDone m h → (r : ℕ) → r < asks h → is_answered r h ≡ true
  pub counted : (h : History) (m : ℕ) → Lawful h → PlainDevices h → IsDone m h → replies h ≡ asks h
  pub told :
      (h : History) (m : ℕ) → Lawful h → PlainDevices h → IsDone m h → Unconfirmed h →
      replies_that is_passed h + replies_that is_levels h + replies_that is_time h + replies_that is_no_device h ≡ asks h

-- nothing is left to be done, and no request without its answer
pub leaves : Laws → ((m : Made) → PlainRead (said Mode.Timed (made_text m))) → (c : Course) (v : Cored) → Sound v →
    Rests v → IsWhole c v → IsOver v.history × IsAnswered v.history
leaves laws law c v sound rests whole =
    let done = is-done c v sound rests whole in
    let devices = devices-plain law c v whole.0 in
    let counted = laws.counted v.history v.last sound.lawful devices done in (
      record { moment = v.last; done = done },
      record {
        each = laws.answered v.history v.last sound.lawful devices done;
        counted = counted;
        told =
            laws.told v.history v.last sound.lawful devices done (unconfirmed law c v whole.0) ∙ sym counted;
      },
    )
