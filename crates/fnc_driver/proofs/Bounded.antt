-- What a journal's text can hold of a device is within the bounds of its definition.
use Rattle.std.proofs.Common.{true, ◌≡◌, length, leb-true}
use Rattle.std.specs.Prelude.{IsTrue, nat_le, nat_lt}
use Rattle.std.proofs.lemmas.Bool.{and_parts, ltb-true}
use Rattle.fnc_journal.specs.declared.entry.Entry.{Entry}
use Rattle.fnc_journal.specs.declared.event.Event.{Event}
use Rattle.fnc_journal.specs.EntryBounds as EntryBounds
use Rattle.fnc_journal.specs.declared.event.LevelSet.{LevelSet}
use Rattle.fnc_journal.specs.declared.limits.TheConstants.{MOST_DEVICES_OF_LEVEL, MOST_LEVELS_OF_TARGET}
use Rattle.fnc_journal.proofs.DefinitionBounds.{is-bounded}
use Rattle.fnc_core.specs.Between.{IsBoundedEvent}
use Rattle.fnc_journal.specs.Known.{IsSmallLevel}

small : (set : LevelSet) → EntryBounds.is_level set ≡ true → IsSmallLevel set.index set.devices
small set b =
    let named = and_parts _ _ b in
    let few = and_parts _ (nat_le (length set.devices) MOST_DEVICES_OF_LEVEL) named.0 in
    let some = and_parts _ (nat_lt 0 (length set.devices)) few.0 in
    let target = and_parts (EntryBounds.is_index set.index) (EntryBounds.is_target set.target) some.0 in
    let index = and_parts (nat_lt 0 set.index) (nat_le set.index MOST_LEVELS_OF_TARGET) target.0 in
    record {
      least = ltb-true 0 set.index index.0;
      most = leb-true set.index MOST_LEVELS_OF_TARGET index.1;
      few = leb-true (length set.devices) MOST_DEVICES_OF_LEVEL few.1;
    }

event-bounded : (event : Event) → EntryBounds.is_event event ≡ true → IsBoundedEvent event
event-bounded (Event.Device device) b =
    is-bounded device.registration.definition
    (and_parts _ (EntryBounds.is_bounded device.registration.definition) b).1
event-bounded (Event.Level set) b = small set b
event-bounded _ b = tt

-- an entry that was read is within the core's bounds
pub bounded_when_read : (e : Entry) → IsTrue (EntryBounds.is_within e) → IsBoundedEvent e.event
bounded_when_read e b = event-bounded e.event b
