-- Every entry that comes is within its bounds, and replies and starts always are.
use Rattle.std.proofs.Common.{ℕ, [], ◌∷◌, ◌++◌, Bool, true, false, ◌&&◌, ◌==◌, ◌≡◌, cond, refl, sym, subst, length, Some}
use Rattle.std.specs.Prelude.{IsTrue}
use Rattle.fnc_journal.specs.declared.entry.Entry.{Entry}
use Rattle.fnc_journal.specs.declared.event.Described.{Described}
use Rattle.fnc_journal.specs.declared.event.Event.{Event}
use Rattle.fnc_journal.specs.EntryBounds.{are_within, is_agent_name, is_described, is_event}
use Rattle.fnc_journal.specs.Found.{entry_at}
use Rattle.fnc_journal.specs.History.{History}
use Rattle.fnc_journal.specs.Served.{AreReplies}
use Rattle.fnc_core.proofs.Following.{entered-answered, entered-history}
use Rattle.fnc_core.specs.Cored.{Advances, Cored, Enters, Starts}
use Rattle.fnc_core.specs.declared.change.Started.{Started}
use Rattle.fnc_desk.proofs.Replied.{kept-replies}

within-replied : (m : ℕ) (rs h : History) → AreReplies m rs → IsTrue (are_within h) → IsTrue (are_within (rs ++ h))
within-replied m rs h a w = kept-replies (λ g. IsTrue (are_within g)) m rs h a (λ n req answer g e. e) w

pub within-advanced : (old new : Cored) (m : ℕ) → Advances old new m → IsTrue (are_within old.history) →
    IsTrue (are_within new.history)
within-advanced old new m a w =
    subst (λ h. IsTrue (are_within h)) (sym a.history) (within-replied m a.advance old.history a.at_once w)

pub within-entered : (old new : Cored) (m : ℕ) (event : Event) (need : ℕ) → Enters old new m event need →
    IsTrue (is_event event) → IsTrue (are_within old.history) → IsTrue (are_within new.history)
within-entered old new m event need n is w =
    let found = within-replied m n.advances.advance old.history n.advances.at_once w in
    subst (λ h. IsTrue (are_within h)) (sym (entered-history n))
    (within-replied m n.follows.replies (record { moment = m; event = event } ∷ (n.advances.advance ++ old.history))
    (entered-answered n) (rw (is, found) refl))

pub within-started : (old new : Cored) (s : Started) → Starts old new s → IsTrue (are_within old.history) →
    IsTrue (are_within new.history)
within-started old new s k w = subst (λ h. IsTrue (are_within h)) (sym k.history) w

-- both of two tests
both : (a b : Bool) → (a && b) ≡ true → (a ≡ true) × (b ≡ true)
both true b p = (refl, p)
both false b p = cc

-- an entry of such a journal is within its bounds
pub within-at : (h : History) (at : ℕ) (e : Entry) → are_within h ≡ true → entry_at at h ≡ Some e →
    is_event e.event ≡ true
within-at [] at e w q = cc
within-at (x ∷ before) at e w q =
    go (at == length before) q (both (is_event x.event) (are_within before) w) (within-at before at e)
  where
    go : (b : Bool) → cond b (Some x) (entry_at at before) ≡ Some e →
        (is_event x.event ≡ true) × (are_within before ≡ true) →
        (are_within before ≡ true → entry_at at before ≡ Some e → is_event e.event ≡ true) → is_event e.event ≡ true
    go true q k ih = let same : x ≡ e = cc in subst (λ (y : Entry). is_event y.event ≡ true) same k.0
    go false q k ih = ih k.1 q

-- what is told of an agent there is within its bounds
pub described-within : (h : History) (at : ℕ) (e : Entry) (d : Described) → are_within h ≡ true →
    entry_at at h ≡ Some e → e.event ≡ Event.Agent d → is_described d.description ≡ true
described-within h at e d w q is =
    let told : is_event (Event.Agent d) ≡ true = subst (λ (event : Event). is_event event ≡ true) is (within-at h at e w q) in
    (both (is_agent_name d.name) (is_described d.description) told).1
