-- What an entry makes of the configuration: one that configures nothing leaves it, and so do the replies.
use Rattle.std.proofs.Common.{ℕ, ◌∷◌, ◌++◌, ◌≡◌, ap, ◌∙◌, length}
use Rattle.fnc_journal.specs.declared.event.Event.{Event}
use Rattle.fnc_journal.specs.History.{History}
use Rattle.fnc_config.specs.Configured.{Configured, configured, configured_by}
use Rattle.fnc_core.proofs.Following.{entered-answered, entered-history}
use Rattle.fnc_core.specs.Cored.{Advances, Cored, Enters, Starts}
use Rattle.fnc_core.specs.declared.change.Started.{Started}
use Rattle.fnc_desk.proofs.Replied.{configured-replied}
use Rattle.fnc_desk.proofs.Taking.{nothing-given}

pub configured-advanced : (old new : Cored) (m : ℕ) → Advances old new m →
    configured new.history ≡ configured old.history
configured-advanced old new m a = ap configured a.history ∙ configured-replied m a.advance old.history a.at_once

-- an entry is seen with what lies before it
configured-entered : (old new : Cored) (m : ℕ) (event : Event) (need : ℕ) (n : Enters old new m event need) →
    configured new.history
    ≡ configured_by (length (n.advances.advance ++ old.history)) event (configured (n.advances.advance ++ old.history))
configured-entered old new m event need n =
    ap configured (entered-history n)
    ∙ configured-replied m n.follows.replies
    (record { moment = m; event = event } ∷ (n.advances.advance ++ old.history)) (entered-answered n)

-- at the last moment that is the journal as it stands
pub configured-now : (old new : Cored) (event : Event) (need : ℕ) → Enters old new old.last event need →
    configured new.history ≡ configured_by (length old.history) event (configured old.history)
configured-now old new event need n =
    configured-entered old new old.last event need n
    ∙ ap (λ (h : History). configured_by (length h) event (configured h))
    (nothing-given old n.advanced n.advances)

-- an entry that configures nothing leaves what is configured
pub configured-still : (old new : Cored) (m : ℕ) (event : Event) (need : ℕ) →
    ((at : ℕ) (c : Configured) → configured_by at event c ≡ c) → Enters old new m event need →
    configured new.history ≡ configured old.history
configured-still old new m event need still n =
    configured-entered old new m event need n
    ∙ still (length (n.advances.advance ++ old.history)) (configured (n.advances.advance ++ old.history))
    ∙ configured-replied m n.advances.advance old.history n.advances.at_once

-- so does a start
pub configured-started : (old new : Cored) (s : Started) → Starts old new s →
    configured new.history ≡ configured old.history
configured-started old new s k = ap configured k.history
