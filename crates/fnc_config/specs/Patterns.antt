-- Which texts are patterns, and what they find.
use Rattle.std.specs.Prelude.{◌≡◌, ℕ, List, Bool, false, ◌&&◌, nat_le, Option, Some, None, is_some, chars}
use Rattle.std.specs.List.{AllByRecursion}
use Rattle.regex.specs.Patterns.{Re, default_config, find_str}
use Rattle.regex.specs.Strings.{IsReadFromSource, regex_config}
use Rattle.regex.specs.declared.string.regex.Regex.{Regex}
use Rattle.regex_syntax.specs.Brackets.{Nested}
use Rattle.regex_syntax.specs.Grammar.{Names, read}

-- what the grammar of `regex` reads in a text, with its default options
abbrev pub read_pattern : List ℕ → Option (Nested Re × Names)
read_pattern text = read default_config (chars text)

-- whether there is a reading that is nested no deeper than it may be
abbrev pub is_reading : Option (Nested Re × Names) → Bool
is_reading None = false
is_reading (Some p) = nat_le p.0.depth default_config.nest_limit

-- whether a text is a pattern
abbrev pub is_pattern : List ℕ → Bool
is_pattern text = is_reading (read_pattern text)

-- whether a reading is found anywhere in a text
abbrev pub is_found : Option (Nested Re × Names) → List ℕ → Bool
is_found None target = false
is_found (Some p) target = nat_le p.0.depth default_config.nest_limit && is_some (find_str p.0.value target 0)

-- whether a pattern is found anywhere in a node's name
abbrev pub finds : List ℕ → List ℕ → Bool
finds text target = is_found (read_pattern text) target

-- a regular expression is the reading of its text, with the default options
abbrev pub IsCompiled : Regex → Type 0
IsCompiled r = (regex_config r ≡ default_config) × IsReadFromSource r

-- each of these texts is looked for as it was compiled
abbrev pub AreByText : List (List ℕ × List ℕ) → Type 0
AreByText es = AllByRecursion (λ (e : List ℕ × List ℕ). e.0 ≡ e.1) es
