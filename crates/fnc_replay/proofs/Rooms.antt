-- How each input goes on having found its room.
use Rattle.std.proofs.Common.{ℕ, [], ◌∷◌, ◌++◌, ◌≡◌, ◌≤◌, ◌+◌, Bool, true, false, cond, refl, ap, sym, ◌∙◌, subst, arith, length}
use Rattle.fnc_journal.specs.declared.outcome.Full.{Full}
use Rattle.fnc_journal.specs.History.{History}
use Rattle.fnc_journal.specs.Owed.{owed}
use Rattle.fnc_outside.specs.Events.{Happening}
use Rattle.fnc_core.specs.Cored.{Cored}
use Rattle.fnc_core.proofs.Following.{entered-answered, entered-history}
use Rattle.fnc_desk.specs.Inputs.{is_exit}
use Rattle.fnc_replay.specs.Rests.{ServesLine}
use Rattle.fnc_replay.specs.Room.{FoundRoom}
use Rattle.fnc_replay.specs.Timed.{LacksRoom, needed}
use Rattle.fnc_replay.proofs.Resting.{AreOutputs, outputs-replies, outputs-starts}

-- outputs ask for no room
room-outputs : (limit m : ℕ) (os h : History) → AreOutputs m os → FoundRoom limit h → FoundRoom limit (os ++ h)
room-outputs limit m [] h a r = r
room-outputs limit m (o ∷ os) h a r =
    (λ input. let bad : true ≡ false = sym input ∙ a.0.0 in cc, room-outputs limit m os h a.1 r)

-- a line that was served found its room
pub room-served : (line : Happening) (old new : Cored) → ServesLine line old new → FoundRoom old.limit old.history →
    FoundRoom old.limit new.history
room-served line old new s r =
    subst (FoundRoom old.limit) (sym whole)
    (room-outputs old.limit s.mid.last s.starts.some.starts _
    (outputs-starts s.mid.last s.starts.some.starts s.starts.some.started)
    (room-outputs old.limit s.takes.entry.moment s.takes.enters.follows.replies _
    (outputs-replies s.takes.entry.moment s.takes.enters.follows.replies (entered-answered s.takes.enters)) (
      λ input. found,
      room-outputs old.limit s.takes.entry.moment s.takes.enters.advances.advance old.history
          (outputs-replies s.takes.entry.moment s.takes.enters.advances.advance s.takes.enters.advances.at_once) r,
    )))
  where
    met : History
    met = s.takes.enters.advances.advance ++ old.history

    whole : new.history ≡ s.starts.some.starts ++ (s.takes.enters.follows.replies ++ s.takes.entry ∷ met)
    whole = s.starts.some.history ∙ ap (λ (h : History). s.starts.some.starts ++ h) (entered-history s.takes.enters)

    least : (b : Bool) → (b ≡ false → 1 ≤ s.takes.need) → cond b 0 1 ≤ s.takes.need
    least true some = omega arith
    least false some = some refl

    room : length met + owed met + s.takes.need ≤ old.limit
    room =
        subst (λ n. length met + owed met + s.takes.need ≤ n) s.takes.enters.advances.limit
        (subst (λ (h : History). length h + owed h + s.takes.need ≤ s.takes.enters.advanced.limit)
        s.takes.enters.advances.history s.takes.enters.has_room)

    found : length met + owed met + needed s.takes.entry.event ≤ old.limit
    found =
        let few : needed s.takes.entry.event ≤ s.takes.need = least (is_exit s.takes.entry.event) s.takes.needs in
        omega (arith, room, few)

-- a line that found none stands nowhere
pub room-passed : (line : Happening) (full : Full) (old new : Cored) → LacksRoom line old new full →
    FoundRoom old.limit old.history → FoundRoom old.limit new.history
room-passed line full old new p r =
    subst (FoundRoom old.limit) (sym p.advances.history)
    (room-outputs old.limit p.entry.moment p.advances.advance old.history
    (outputs-replies p.entry.moment p.advances.advance p.advances.at_once) r)
