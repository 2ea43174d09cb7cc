use Rattle.std.proofs.Common.{◌≡◌, ◌++◌, drop}
use Rattle.std.specs.Prelude.{string_bytes}
use Rattle.std.specs.List.{flat_map}
use Rattle.fnc_switch.specs.Agents.{listed}
use Rattle.fnc_switch.proofs.listing.text_of.Given as goal

-- the lines so far and those that are left are all lines
abbrev pub invariant-loop-plug : goal.invariant-loop-plug
invariant-loop-plug l =
    string_bytes l.text ++ flat_map listed (drop l.plug-index l.plugs) ≡ flat_map listed l.plugs
