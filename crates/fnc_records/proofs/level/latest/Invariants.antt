use Rattle.std.proofs.Common.{◌≡◌, drop}
use Rattle.fnc_records.specs.LevelRecords.{latest}
use Rattle.fnc_records.proofs.level.latest.Given as goal

-- what was found so far, with the slots that are left
abbrev pub invariant-loop-s : goal.invariant-loop-s
invariant-loop-s l = latest l.begin l.moment l.latest (drop l.s-index l.slots) ≡ latest l.begin l.moment l.at l.slots
