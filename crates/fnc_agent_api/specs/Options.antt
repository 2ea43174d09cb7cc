-- The options that a fence agent reads on its standard input: one `name=value` a line.
use Rattle.std.specs.Prelude.{
  ◌≡◌,
  ℕ,
  List,
  [],
  ◌∷◌,
  ◌++◌,
  ◌+◌,
  ◌==◌,
  if◌then◌else◌,
  Bool,
  true,
  Option,
  Some,
  None,
  Result,
  Ok,
  Err,
  length,
  nat_lt,
  reverse,
  find,
  option_map,
  bytes_eq,
}
use Rattle.std.specs.List.{list_any}
use Rattle.std.specs.Str.{is_utf8}
use Rattle.fnc_journal.specs.declared.limits.TheConstants.{LONGEST_OPTIONS}
use Rattle.fnc_journal.specs.declared.names.Pair.{Pair}
use Rattle.fnc_agent_api.specs.declared.options.OptionFault.{OptionFault}
use Rattle.fnc_agent_api.specs.Blanks.{trimmed}
use Rattle.fnc_agent_api.specs.Cuts.{before, after, lines_of}

-- an empty line says nothing, nor does one that begins with `#`
abbrev pub is_skipped : List ℕ → Bool
is_skipped [] = true
is_skipped (b ∷ bs) = b == 35

-- a name and its value
abbrev pub pair : List ℕ → List ℕ → Pair
pair name value = record { name = name; value = value }

-- the name and the value of a line: the name ends at the first `=`
abbrev pub parts_of : List ℕ → Option Pair
parts_of line = if list_any (λ b. b == 61) line then Some (pair (before 61 line) (after 61 line)) else None

-- a pair has a name
abbrev pub named : ℕ → Option Pair → Result (Option Pair) OptionFault
named number None = Err (OptionFault.NoEquals number)
named number (Some p) = if length p.name == 0 then Err (OptionFault.EmptyName number) else Ok (Some p)

-- what a line without its blanks says
abbrev pub pair_of : ℕ → List ℕ → Result (Option Pair) OptionFault
pair_of number line = if is_skipped line then Ok None else named number (parts_of line)

-- the pairs of the lines that follow, with a pair before them
abbrev pub with_pair : Option Pair → Result (List Pair) OptionFault → Result (List Pair) OptionFault
with_pair None (Ok ps) = Ok ps
with_pair (Some p) (Ok ps) = Ok (p ∷ ps)
with_pair p (Err fault) = Err fault

-- the pairs of the lines that follow, with those of the lines before
abbrev pub after_pairs : List Pair → Result (List Pair) OptionFault → Result (List Pair) OptionFault
after_pairs front (Ok ps) = Ok (front ++ ps)
after_pairs front (Err fault) = Err fault

-- a fault of an earlier line comes first
abbrev pub then_pairs : Result (Option Pair) OptionFault → Result (List Pair) OptionFault
    → Result (List Pair) OptionFault
then_pairs (Ok p) rest = with_pair p rest
then_pairs (Err fault) rest = Err fault

-- the pairs of lines that are numbered from here on, or the fault of the first bad line
abbrev pub pairs_of : ℕ → List (List ℕ) → Result (List Pair) OptionFault
pairs_of number [] = Ok []
pairs_of number (line ∷ lines) = then_pairs (pair_of number (trimmed line)) (pairs_of (number + 1) lines)

-- the options that the bytes are, or the first fault: too long, no text, or a bad line
abbrev pub options_of : List ℕ → Result (List Pair) OptionFault
options_of bytes = if nat_lt LONGEST_OPTIONS (length bytes) then Err OptionFault.TooLong
    else (if is_utf8 bytes then pairs_of 1 (lines_of bytes) else Err OptionFault.NotUtf8)

-- the value of the last pair of a name
abbrev pub last_value : List ℕ → List Pair → Option (List ℕ)
last_value name pairs = option_map (λ (p : Pair). p.value) (find (λ (p : Pair). bytes_eq name p.name) (reverse pairs))

-- a fault is the one that was to be found, unless memory ran out
abbrev pub Fails : {A : Type 0} → OptionFault → Result A OptionFault → Type 0
Fails OptionFault.NoMemory said = Unit {0}
Fails fault said = said ≡ Err fault

-- what was returned is what the bytes say, unless memory ran out
abbrev pub Gives : {A : Type 0} → Result A OptionFault → Result A OptionFault → Type 0
Gives (Ok x) said = said ≡ Ok x
Gives (Err fault) said = Fails fault said

-- the pairs gained what a line says
abbrev pub Adds : List Pair → List Pair → Result (Option Pair) OptionFault → Type 0
Adds old new said = (rest : Result (List Pair) OptionFault) → after_pairs new rest
    ≡ after_pairs old (then_pairs said rest)
