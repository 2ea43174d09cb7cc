-- Option words: a name, an equals sign and a value. And the words of a device, which has any number of them.
use Rattle.std.specs.Prelude.{
  ℕ,
  List,
  [],
  ◌∷◌,
  ◌+◌,
  ◌==◌,
  if◌then◌else◌,
  take,
  drop,
  is_some,
  option_map,
  Option,
  Some,
  None,
  Result,
  Ok,
  Err,
}
use Rattle.std.specs.List.{position}
use Rattle.fnc_journal.specs.declared.cause.Cause.{Cause}
use Rattle.fnc_journal.specs.declared.names.Pair.{Pair}
use Rattle.fnc_command.specs.declared.command.Command.{Command}
use Rattle.fnc_command.specs.Answers.{and_then}
use Rattle.fnc_command.specs.Fields.{text_of, name_of, agent_of}

-- an option word, cut at its first equals sign, if it has one
abbrev pub cut_option : List ℕ → Option (List ℕ × List ℕ)
cut_option word = option_map (λ at. (take at word, drop (at + 1) word)) (position (λ b. b == 61) word)

-- the pair of a word that was cut; without an equals sign it is no option
abbrev pub pair_cut : List ℕ → Option (List ℕ × List ℕ) → Result Pair Cause
pair_cut word None = and_then (text_of word) (λ t. Err Cause.BadWord)
pair_cut word (Some cut) =
    and_then (text_of cut.0) (λ name. and_then (text_of cut.1) (λ value. Ok (record { name = name; value = value })))

-- the pair that an option word of a device spells
abbrev pub pair_of : List ℕ → Result Pair Cause
pair_of word = pair_cut word (cut_option word)

-- the pairs that option words spell
abbrev pub pairs_of : List (List ℕ) → Result (List Pair) Cause
pairs_of [] = Ok []
pairs_of (word ∷ ws) = and_then (pair_of word) (λ pair. and_then (pairs_of ws) (λ pairs. Ok (pair ∷ pairs)))

-- the word of a device's agent, where there is one: it has no equals sign
abbrev pub agent_word : List (List ℕ) → Option (List ℕ)
agent_word [] = None
agent_word (word ∷ ws) = if is_some (cut_option word) then None else Some word

-- the option words of a device: those after that of the agent
abbrev pub option_words : List (List ℕ) → List (List ℕ)
option_words [] = []
option_words (word ∷ ws) = if is_some (cut_option word) then word ∷ ws else ws

-- the agent's name that its word spells, if there is one
abbrev pub optional_agent : Option (List ℕ) → Result (Option (List ℕ)) Cause
optional_agent None = Ok None
optional_agent (Some word) = and_then (agent_of word) (λ name. Ok (Some name))

-- `device NAME [AGENT] [NAME=VALUE]..`
abbrev pub said_device : List (List ℕ) → Result Command Cause
said_device [] = Err Cause.MissingWord
said_device (word ∷ ws) =
    and_then (name_of word) (λ name. and_then (optional_agent (agent_word ws)) (λ agent.
    and_then (pairs_of (option_words ws)) (λ options.
    Ok (Command.Device name agent options))))
