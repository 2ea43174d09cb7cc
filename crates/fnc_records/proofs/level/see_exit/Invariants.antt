use Rattle.std.proofs.Common.{◌≡◌, ◌++◌, map, take, drop}
use Rattle.fnc_records.specs.SlotRecords.{ended}
use Rattle.fnc_records.proofs.level.see_exit.Given as goal

-- the slots so far have seen it
abbrev pub invariant-loop-s : goal.invariant-loop-s
invariant-loop-s l = l.slots ≡ map (ended l.slot l.exit l.listed l.over l.moment) (take l.s-index l.initial.slots) ++
    drop l.s-index l.initial.slots
