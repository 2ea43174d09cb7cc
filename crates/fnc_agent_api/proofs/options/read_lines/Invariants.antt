use Rattle.std.proofs.Common.{◌≡◌, ◌+◌, ◌≤◌, length}
use denote.Shadow.{shadow}
use denote.Text.{Utf8}
use Rattle.fnc_agent_api.specs.Cuts.{lines_of}
use Rattle.fnc_agent_api.specs.Options.{pairs_of, after_pairs}
use Rattle.fnc_agent_api.proofs.options.read_lines.Given as goal

-- the pairs so far and those of the lines that are left are the pairs of all lines
abbrev pub invariant-loop-rest : goal.invariant-loop-rest
invariant-loop-rest l =
    (after_pairs l.pairs (pairs_of l.number (lines_of l.rest)) ≡ pairs_of 1 (lines_of l.text))
    × (l.number + length l.rest ≤ 32769) × shadow (Utf8 l.rest)

abbrev pub decreases-loop-rest : goal.decreases-loop-rest
decreases-loop-rest l = length l.rest
