-- A command of `clap` as it is made of its arguments, and what a parse of it finds.
use Rattle.std.specs.Prelude.{◌≡◌, ◌&&◌, Bool, true, false, not, List, [], ◌∷◌, Some, codes}
use Rattle.std.specs.List.{All, list_any}
use Rattle.std.specs.Str.{bytes_eq}
use Rattle.clap.specs.Words.{Accepts, App, IsPlain, IsPlainArg, Row, Rule, Text, app_of, found_of, is_simple}
use Rattle.clap.specs.Words.{is_simple_and_free, read_as, reading_of, one_of, rows_of, rule_of}
use Rattle.clap.specs.Walk.{is_empty}
use Rattle.clap.specs.declared.builder.arg.Arg.{Arg}
use Rattle.clap.specs.declared.builder.command.Command.{Command}
use Rattle.clap.specs.declared.builder.command.Command.TheViews.{out-Command}
use Rattle.clap.specs.declared.builder.value_parser.ValueParser.{ValueParser}
use Rattle.clap.specs.declared.parser.matches.ArgMatches.{ArgMatches}
use Rattle.fnc_words.specs.Arguments.{taken}

-- the argument has these rules, and none on another argument
pub record IsArgument (rule : Rule) (a : Arg) : Type 0 where
  pub rules : rule_of a ≡ rule
  pub plain : IsPlainArg a
  pub local : a.global ≡ false

-- the command is made so
pub record IsMadeAs (app : App) (command : Command) : Type 0 where
  pub shape : app_of command ≡ app
  pub plain : IsPlain command
  pub local : (out-Command command).has_globals ≡ false

-- an argument has an id of its own, which is none of a flag that `clap` adds
abbrev pub is_own : Text → Bool
is_own id = not (is_empty id) && (not (bytes_eq id (codes "help")) && not (bytes_eq id (codes "version")))

-- no two arguments have one id, and each is read in its case
abbrev pub are_distinct : List Rule → Bool
are_distinct [] = true
are_distinct (r ∷ rs) = is_own r.id && (not r.ignore_case
    && (not (list_any (λ s. bytes_eq s.id r.id) rs) && are_distinct rs))

-- `clap` tells exactly what it finds in the words of such a command
pub record IsExact (app : App) : Type 0 where
  pub simple : is_simple app ≡ true
  pub free : is_simple_and_free app ≡ true
  pub distinct : are_distinct app.top.rules ≡ true

-- the text passes the parser, and is read as the parser says
pub record Passed (q : ValueParser) (read : Text) : Type 0 where
  pub text : Text
  pub is : read ≡ read_as (reading_of q) text
  pub accepted : Accepts false q text

-- what is read of an argument passed its parser
abbrev pub HasPassed : List Row → Rule → Type 0
HasPassed rows rule = (q : ValueParser) (read : Text) → rule.parser ≡ Some q → one_of rule.id rows ≡ Some read
    → Passed q read

-- the matches are those of the words, and each value passed the parser of its argument
pub record Finds (app : App) (words : List Text) (m : ArgMatches) : Type 0 where
  pub taken : taken app words ≡ Some (rows_of (found_of m))
  pub passed : All (HasPassed (rows_of (found_of m))) app.top.rules
