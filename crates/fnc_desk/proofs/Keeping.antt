-- The configuration stays that of the journal, and the entries stay within their bounds.
use Rattle.std.proofs.Common.{ℕ, ◌≡◌, refl, ap, sym, ◌∙◌, length, Option, Some, None, Result, Ok, Err}
use Rattle.std.specs.Prelude.{IsTrue, OnOk, OnErr, IfNone, IfSome}
use Rattle.fnc_journal.specs.declared.cause.Cause.{Cause}
use Rattle.fnc_journal.specs.declared.event.Ended.{Ended}
use Rattle.fnc_journal.specs.declared.event.Event.{Event}
use Rattle.fnc_journal.specs.EntryBounds.{are_within, is_event}
use Rattle.fnc_config.specs.Configured.{Configured, configured, configured_by}
use Rattle.fnc_core.specs.Cored.{Advances, Cored, Enters, Starts}
use Rattle.fnc_core.specs.declared.change.Started.{Started}
use Rattle.fnc_desk.proofs.Configuring.{configured-advanced, configured-now, configured-started, configured-still}
use Rattle.fnc_desk.proofs.Within.{within-advanced, within-entered, within-started}

-- the configuration is that of the journal, and each entry is within its bounds
abbrev pub Keeps : Configured → Cored → Type 0
Keeps c v = (c ≡ configured v.history) × IsTrue (are_within v.history)

pub keeps-advanced : (c : Configured) (old new : Cored) (m : ℕ) → Advances old new m → Keeps c old → Keeps c new
keeps-advanced c old new m a k =
    (k.0 ∙ sym (configured-advanced old new m a), within-advanced old new m a k.1)

-- an entry that configures nothing
pub keeps-still : (c : Configured) (old new : Cored) (m : ℕ) (event : Event) (need : ℕ) →
    ((at : ℕ) (d : Configured) → configured_by at event d ≡ d) → IsTrue (is_event event) →
    Enters old new m event need → Keeps c old → Keeps c new
keeps-still c old new m event need still is n k =
    (k.0 ∙ sym (configured-still old new m event need still n), within-entered old new m event need n is k.1)

-- an entry at the last moment that the configuration has followed
pub keeps-changed : (c d : Configured) (old new : Cored) (event : Event) (need : ℕ) →
    d ≡ configured_by (length old.history) event c → IsTrue (is_event event) →
    Enters old new old.last event need → Keeps c old → Keeps d new
keeps-changed c d old new event need follows is n k = (
  follows ∙ ap (configured_by (length old.history) event) k.0
      ∙ sym (configured-now old new event need n),
  within-entered old new old.last event need n is k.1,
)

-- a line that is refused, or finds no room
pub keeps-refused : (c : Configured) (old new : Cored) (m line : ℕ) (cause : Cause) {X : Type 0}
    (r : Result (Unit {0}) X) →
    OnOk r (Enters old new m (Event.Refused (record { line = line; cause = cause })) 1) →
    OnErr r (Advances old new m) → Keeps c old → Keeps c new
keeps-refused c old new m line cause (Ok u) e a k =
    keeps-still c old new m (Event.Refused (record { line = line; cause = cause })) 1 (λ at d. refl) refl e k
keeps-refused c old new m line cause (Err x) e a k = keeps-advanced c old new m a k

-- a start, or none
pub keeps-started : (c : Configured) (old new : Cored) (s : Option Started) → IfNone s (new ≡ old) →
    IfSome s (Starts old new) → Keeps c old → Keeps c new
keeps-started c old new None e s k = rw e k
keeps-started c old new (Some started) e s k =
    (k.0 ∙ sym (configured-started old new started s), within-started old new started s k.1)

-- the exit of a run, or a run that is not alive
pub keeps-exit : (c : Configured) (old new : Cored) (m : ℕ) (ended : Ended) {X : Type 0} (r : Result (Unit {0}) X) →
    OnOk r (Enters old new m (Event.Exit ended) 0) → OnErr r (Advances old new m) → Keeps c old → Keeps c new
keeps-exit c old new m ended (Ok u) e a k = keeps-still c old new m (Event.Exit ended) 0 (λ at d. refl) refl e k
keeps-exit c old new m ended (Err x) e a k = keeps-advanced c old new m a k

-- time that passes
pub keeps-passed : (c : Configured) (old new : Cored) (m : ℕ) {X : Type 0} (r : Result (Unit {0}) X) →
    OnOk r (Enters old new m Event.Pass 1) → OnErr r (Advances old new m) → Keeps c old → Keeps c new
keeps-passed c old new m (Ok u) e a k = keeps-still c old new m Event.Pass 1 (λ at d. refl) refl e k
keeps-passed c old new m (Err x) e a k = keeps-advanced c old new m a k
