-- How commands are made of arguments, and what `clap` tells of them.
use Rattle.std.proofs.Common.{◌∙◌, Bool, Result, Ok, Err, refl, ap₂, ◌||◌}
use Rattle.std.specs.Prelude.{IfOk}
use Rattle.clap.specs.Words.{AddsArg, App, Rule, Text, with_rule}
use Rattle.clap.specs.declared.builder.arg.Arg.{Arg}
use Rattle.clap.specs.declared.builder.command.Command.{Command}
use Rattle.clap.proofs.CallerLemmas.{added_plain}
use Rattle.clap.proofs.OnLiterals.{clap_on_literals}
use Rattle.fnc_words.specs.Arguments.{course_app, entries_app, inquiry_app, session_app}
use Rattle.fnc_words.specs.Making.{IsArgument, IsExact, IsMadeAs}

-- a command with an argument more
pub made-with : (app : App) (rule : Rule) (before after : Command) (a : Arg) → IsMadeAs app before →
    AddsArg before a after → IsArgument rule a → IsMadeAs (with_rule app rule) after
made-with app rule before after a made added argument = record {
  shape = added.shape argument.local ∙ ap₂ with_rule made.shape argument.rules;
  plain = added_plain before after a added made.plain argument.plain;
  local = added.globals ∙ ap₂ (λ (x y : Bool). x || y) made.local argument.local;
}

-- what adding an argument gives, where there is memory for it
pub made-ok : {E : Type 0} (app : App) (rule : Rule) (before : Command) (a : Arg) (r : Result Command E) →
    IsMadeAs app before → IsArgument rule a → IfOk r (λ after. AddsArg before a after) →
    IfOk r (IsMadeAs (with_rule app rule))
made-ok app rule before a (Ok after) made argument added = made-with app rule before after a made added argument
made-ok app rule before a (Err e) made argument added = tt

-- `clap` tells exactly what it finds in the words of each command
pub session-exact : (name : Text) → IsExact (session_app name)
unfolding clap_on_literals
session-exact name = record { simple = refl; free = refl; distinct = refl }

pub entries-exact : (name : Text) → IsExact (entries_app name)
unfolding clap_on_literals
entries-exact name = record { simple = refl; free = refl; distinct = refl }

pub inquiry-exact : (name : Text) → IsExact (inquiry_app name)
unfolding clap_on_literals
inquiry-exact name = record { simple = refl; free = refl; distinct = refl }

pub course-exact : (name : Text) → IsExact (course_app name)
unfolding clap_on_literals
course-exact name = record { simple = refl; free = refl; distinct = refl }
