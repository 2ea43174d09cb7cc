use Rattle.std.proofs.Common.{◌≡◌, ◌++◌, drop}
use Rattle.fnc_config.specs.Planning.{places_in}
use Rattle.fnc_config.proofs.planned.places.Given as goal

-- the places so far, and those that are left
abbrev pub invariant-loop-name : goal.invariant-loop-name
invariant-loop-name l =
    l.places ++ places_in l.devices (drop l.name-index l.names) ≡ places_in l.devices l.names
