use Rattle.std.proofs.Common.{◌≡◌, ◌++◌, drop}
use Rattle.std.specs.Prelude.{string_bytes}
use Rattle.fnc_switch.specs.Switches.{text_of}
use Rattle.fnc_switch.proofs.switch.plugs_text.Given as goal

-- the lines so far and those that are left are all lines
abbrev pub invariant-loop-plug : goal.invariant-loop-plug
invariant-loop-plug l = string_bytes l.text ++ text_of (drop l.plug-index l.plugs) ≡ text_of l.plugs
