use Rattle.std.proofs.Common.{◌≡◌, ◌++◌, drop}
use Rattle.std.specs.Prelude.{string_bytes}
use Rattle.fnc_agent_api.specs.OptionLines.{option_lines}
use Rattle.fnc_agent_api.proofs.option_lines.push_all.Given as goal

-- the lines so far and those that are left are all lines
abbrev pub invariant-loop-pair : goal.invariant-loop-pair
invariant-loop-pair l =
    string_bytes l.text ++ option_lines (drop l.pair-index l.pairs) ≡ string_bytes l.fn.text ++ option_lines l.pairs
