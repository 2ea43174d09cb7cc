-- The configuration stays that of the journal: an entry that configures nothing leaves it, and so do the replies.
use Rattle.std.proofs.Common.{
  ℕ,
  [],
  ◌∷◌,
  ◌++◌,
  true,
  ◌≡◌,
  refl,
  ap,
  sym,
  ◌∙◌,
  length,
  Option,
  Some,
  None,
  Result,
  Ok,
  Err,
}
use Rattle.std.specs.Prelude.{IfNone, IfOk, IfSome, OnErr, OnOk}
use Rattle.fnc_journal.specs.declared.entry.Req.{Req}
use Rattle.fnc_journal.specs.declared.event.Event.{Event}
use Rattle.fnc_journal.specs.declared.plan.Plan.{Plan}
use Rattle.fnc_journal.specs.History.{History}
use Rattle.fnc_journal.specs.Found.{is_reply}
use Rattle.fnc_journal.specs.Served.{AreReplies}
use Rattle.fnc_config.specs.Configured.{Configured, configured, configured_by}
use Rattle.fnc_core.proofs.Following.{entered-answered, entered-history}
use Rattle.fnc_core.specs.Cored.{Advances, Asks, Cored, Enters, Starts, ask_event}
use Rattle.fnc_core.specs.declared.change.Ask.{Ask}
use Rattle.fnc_core.specs.declared.change.Started.{Started}

-- the configuration is that of the journal
abbrev pub Keeps : Configured → Cored → Type 0
Keeps c v = c ≡ configured v.history

configured-replied : (m : ℕ) (rs h : History) → AreReplies m rs → configured (rs ++ h) ≡ configured h
configured-replied m [] h a = refl
configured-replied m (r ∷ rs) h a = go r.event a.0.0 ∙ configured-replied m rs h a.1
  where
    go : (event : Event) → is_reply event ≡ true →
        configured_by (length (rs ++ h)) event (configured (rs ++ h)) ≡ configured (rs ++ h)
    go (Event.Reply reply) e = refl
    go (Event.Device device) e = cc
    go (Event.Gone reg) e = cc
    go (Event.Level set) e = cc
    go (Event.LevelGone cleared) e = cc
    go (Event.Agent described) e = cc
    go (Event.Ask ask) e = cc
    go (Event.Exit ended) e = cc
    go Event.Pass e = cc
    go (Event.Confirm confirmation) e = cc
    go (Event.Refused refusal) e = cc
    go (Event.Start start) e = cc

-- an entry is seen with what lies before it
configured-entered : (old new : Cored) (m : ℕ) (event : Event) (need : ℕ) (n : Enters old new m event need) →
    configured new.history
    ≡ configured_by (length (n.advances.advance ++ old.history)) event (configured (n.advances.advance ++ old.history))
configured-entered old new m event need n =
    ap configured (entered-history n)
    ∙ configured-replied m n.follows.replies
    (record { moment = m; event = event } ∷ (n.advances.advance ++ old.history)) (entered-answered n)

pub keeps-advanced : (c : Configured) (old new : Cored) (m : ℕ) → Advances old new m → Keeps c old → Keeps c new
keeps-advanced c old new m a k =
    k ∙ sym (ap configured a.history ∙ configured-replied m a.advance old.history a.at_once)

-- an entry that configures nothing
pub keeps-still : (c : Configured) (old new : Cored) (m : ℕ) (event : Event) (need : ℕ) →
    ((at : ℕ) (d : Configured) → configured_by at event d ≡ d) → Enters old new m event need → Keeps c old →
    Keeps c new
keeps-still c old new m event need still n k =
    k
    ∙ sym (configured-entered old new m event need n
    ∙ still (length (n.advances.advance ++ old.history)) (configured (n.advances.advance ++ old.history))
    ∙ configured-replied m n.advances.advance old.history n.advances.at_once)

-- an entry at the last moment that the configuration has followed
pub keeps-changed : (c d : Configured) (old new : Cored) (event : Event) (need : ℕ) →
    d ≡ configured_by (length old.history) event c → Enters old new old.last event need → Keeps c old → Keeps d new
keeps-changed c d old new event need follows n k =
    let now : n.advances.advance ++ old.history ≡ old.history =
    ap (λ (h : History). h ++ old.history) (n.advances.still refl) in
    follows
    ∙ ap (configured_by (length old.history) event) k
    ∙ sym (configured-entered old new old.last event need n
    ∙ ap (λ (h : History). configured_by (length h) event (configured h)) now)

-- an entry that configures nothing, or none
pub keeps-either : (c : Configured) (old new : Cored) (m : ℕ) (event : Event) (need : ℕ) {X E : Type 0}
    (r : Result X E) → ((at : ℕ) (d : Configured) → configured_by at event d ≡ d) →
    OnOk r (Enters old new m event need) → OnErr r (Advances old new m) → Keeps c old → Keeps c new
keeps-either c old new m event need (Ok u) still e a k = keeps-still c old new m event need still e k
keeps-either c old new m event need (Err x) still e a k = keeps-advanced c old new m a k

-- a request, or none
pub keeps-asked : (c : Configured) (old new : Cored) (m : ℕ) (ask : Ask) (plan : Plan) {E : Type 0}
    (r : Result Req E) → IfOk r (Asks old new m ask plan) → OnErr r (Advances old new m) → Keeps c old → Keeps c new
keeps-asked c old new m ask plan (Ok req) e a k =
    keeps-still c old new m (ask_event req e.lead ask plan) e.need (λ at d. refl) e.enters k
keeps-asked c old new m ask plan (Err x) e a k = keeps-advanced c old new m a k

-- a start, or none
pub keeps-started : (c : Configured) (old new : Cored) (s : Option Started) → IfNone s (new ≡ old) →
    IfSome s (Starts old new) → Keeps c old → Keeps c new
keeps-started c old new None e s k = rw e k
keeps-started c old new (Some started) e s k = k ∙ sym (ap configured s.history)
