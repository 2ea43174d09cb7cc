use Rattle.std.proofs.Common.{◌≡◌, ◌++◌, map, take, drop}
use Rattle.fnc_records.specs.LevelRecords.{level_started}
use Rattle.fnc_records.proofs.operation.see_start.Given as goal

-- the levels so far have seen it
abbrev pub invariant-loop-level : goal.invariant-loop-level
invariant-loop-level l = l.levels ≡ map (level_started l.slot l.moment) (take l.level-index l.initial.levels) ++ drop
    l.level-index l.initial.levels
