use Rattle.std.proofs.Common.{◌≡◌, ◌++◌, map, take, drop}
use Rattle.fnc_records.specs.SlotRecords.{started}
use Rattle.fnc_records.proofs.level.see_start.Given as goal

-- the slots so far have seen it
abbrev pub invariant-loop-s : goal.invariant-loop-s
invariant-loop-s l = l.slots ≡ map (started l.slot l.moment) (take l.s-index l.initial.slots) ++ drop l.s-index
    l.initial.slots
