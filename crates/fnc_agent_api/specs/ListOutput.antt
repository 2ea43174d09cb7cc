-- Which nodes the output of an agent's `list` names: one plug a line, then a comma and the plug's alias.
use Rattle.std.specs.Prelude.{ℕ, List, Bool, ◌||◌, bytes_eq}
use Rattle.std.specs.List.{list_any}
use Rattle.fnc_agent_api.specs.Blanks.{trimmed}
use Rattle.fnc_agent_api.specs.Cuts.{before, after, lines_of}

-- what stands before the first comma
abbrev pub plug : List ℕ → List ℕ
plug line = trimmed (before 44 line)

-- what stands between the first comma and the second one or the end; nothing where there is no comma
abbrev pub alias : List ℕ → List ℕ
alias line = trimmed (before 44 (after 44 line))

-- whether a line names the target
abbrev pub names : List ℕ → List ℕ → Bool
names target line = bytes_eq (plug line) target || bytes_eq (alias line) target

-- whether a line of the output names the target
abbrev pub lists : List ℕ → List ℕ → Bool
lists output target = list_any (names target) (lines_of output)
