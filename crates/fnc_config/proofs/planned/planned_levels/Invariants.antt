use Rattle.std.proofs.Common.{◌≡◌, ◌++◌, drop, map}
use Rattle.fnc_config.specs.Planning.{plan_level_in}
use Rattle.fnc_config.proofs.planned.planned_levels.Given as goal

-- the levels so far, and those that are left
abbrev pub invariant-loop-level : goal.invariant-loop-level
invariant-loop-level l =
    l.planned ++ map (plan_level_in l.devices) (drop l.level-index l.levels) ≡ map (plan_level_in l.devices) l.levels
