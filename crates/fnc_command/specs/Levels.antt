-- Targets and devices of a level.
use Rattle.std.specs.Prelude.{
  ℕ,
  List,
  [],
  ◌∷◌,
  Bool,
  false,
  ◌&&◌,
  ◌==◌,
  if◌then◌else◌,
  nat_le,
  length,
  drop,
  Result,
  Ok,
}
use Rattle.std.specs.List.{list_all, slice_split}
use Rattle.fnc_journal.specs.declared.limits.TheConstants.{LONGEST_NAME}
use Rattle.fnc_journal.specs.declared.cause.Cause.{Cause}
use Rattle.fnc_journal.specs.declared.entry.LevelTarget.{LevelTarget}
use Rattle.fnc_journal.specs.Names.{is_name}
use Rattle.fnc_command.specs.declared.command.Command.{Command}
use Rattle.fnc_command.specs.Answers.{and_then}
use Rattle.fnc_command.specs.Cuts.{two, three}
use Rattle.fnc_command.specs.Fields.{passing, text_of, name_of, number_of}

-- whether a word begins with the mark of a pattern, which is no escape
abbrev pub is_marked : List ℕ → Bool
is_marked [] = false
is_marked (b ∷ bs) = b == 126

-- whether a text is a pattern: 1 to 255 bytes, of any kind
abbrev pub is_pattern : List ℕ → Bool
is_pattern t = nat_le 1 (length t) && nat_le (length t) LONGEST_NAME

-- the pattern that the rest of a word spells
abbrev pub pattern_of : List ℕ → Result LevelTarget Cause
pattern_of rest = and_then (text_of rest) (λ t. passing Cause.BadName (is_pattern t) (LevelTarget.Pattern t))

-- the target that a word spells
abbrev pub target_of : List ℕ → Result LevelTarget Cause
target_of word =
    if is_marked word then pattern_of (drop 1 word)
    else and_then (name_of word) (λ name. Ok (LevelTarget.Name name))

-- the parts of a text between its commas
abbrev pub comma_parts : List ℕ → List (List ℕ)
comma_parts t = slice_split (λ b. b == 44) t

-- parts that have to be names
abbrev pub all_names : List (List ℕ) → Result (List (List ℕ)) Cause
all_names parts = passing Cause.BadName (list_all is_name parts) parts

-- the devices that a word spells
abbrev pub devices_of : List ℕ → Result (List (List ℕ)) Cause
devices_of word = and_then (text_of word) (λ t. all_names (comma_parts t))

-- the words of `level`
abbrev pub level_of : List ℕ × List ℕ × List ℕ → Result Command Cause
level_of w =
    and_then (number_of 18446744073709551615 w.0) (λ index.
    and_then (target_of w.1) (λ target. and_then (devices_of w.2) (λ devices.
    Ok (Command.Level target index devices))))

-- `level INDEX TARGET DEVICES`
abbrev pub said_level : List (List ℕ) → Result Command Cause
said_level ws = and_then (three ws) level_of

-- the words of `unlevel`
abbrev pub unlevel_of : List ℕ × List ℕ → Result Command Cause
unlevel_of w =
    and_then (number_of 18446744073709551615 w.0) (λ index.
    and_then (target_of w.1) (λ target. Ok (Command.Unlevel target index)))

-- `unlevel INDEX TARGET`
abbrev pub said_unlevel : List (List ℕ) → Result Command Cause
said_unlevel ws = and_then (two ws) unlevel_of
