-- The arguments that the words of a command may have, and the commands of `clap` that are made of them. `clap` says by
-- its own definition `fault_of` what is wrong with words, and by `matches_of` what they say.
use Rattle.std.specs.Prelude.{List, Option, Some, None, true, pos, codes, if◌then◌else◌}
use Rattle.clap.specs.Faults.{fault_of}
use Rattle.clap.specs.Simple.{App, Shape, matches_of, new_app, new_rule, on_top, with_rule}
use Rattle.clap.specs.Walk.{Row, Rule, Text, is_empty}
use Rattle.clap.specs.declared.builder.action.ArgAction.TheVariants.{Set, SetTrue}
use Rattle.clap.specs.declared.builder.value_parser.ValueParser.TheVariants as parser
use Rattle.fnc_journal.specs.declared.limits.TheConstants as limits
use Rattle.fnc_words.specs.declared.course.TheConstants as course

-- `--entries N`, a number within the limits of a journal
abbrev pub entries_rule : Rule
entries_rule = record (new_rule (codes "entries")) {
  long = Some (codes "entries");
  action = Some Set;
  parser = Some (parser.Signed (pos limits.LEAST_JOURNAL) (pos limits.GREATEST_JOURNAL));
}

-- `--journal`, a flag
abbrev pub journal_rule : Rule
journal_rule = record (new_rule (codes "journal")) {
  long = Some (codes "journal");
  action = Some SetTrue;
  parser = Some parser.Bool;
}

-- `NODE`, one required word
abbrev pub node_rule : Rule
node_rule = record (new_rule (codes "node")) { action = Some Set; required = true; parser = Some parser.String }

-- `NUMBER`, a required number of 64 bits
abbrev pub number_rule : Rule
number_rule = record (new_rule (codes "number")) {
  action = Some Set;
  required = true;
  parser = Some (parser.Unsigned 0 18_446_744_073_709_551_615);
}

-- `COUNT`, a required number within the limits of a course
abbrev pub count_rule : Rule
count_rule = record (new_rule (codes "count")) {
  action = Some Set;
  required = true;
  parser = Some (parser.Signed (pos course.LEAST_STEPS) (pos course.MOST_STEPS));
}

-- a command without the help flag, and without arguments yet
abbrev pub plain_app : Text → App
plain_app name = on_top (λ (s : Shape). record s { disable_help_flag = true }) (new_app name)

-- a command that has a journal: `[--entries N]`
abbrev pub entries_app : Text → App
entries_app name = with_rule (plain_app name) entries_rule

-- a command that runs a session: `[--entries N] [--journal]`
abbrev pub session_app : Text → App
session_app name = with_rule (entries_app name) journal_rule

-- a command that asks for a node: `[--entries N] NODE`
abbrev pub inquiry_app : Text → App
inquiry_app name = with_rule (entries_app name) node_rule

-- a command that makes its own session: `NUMBER COUNT`
abbrev pub course_app : Text → App
course_app name = with_rule (with_rule (plain_app name) number_rule) count_rule

-- what `clap` finds in the words of a command, where it takes them
abbrev pub taken : App → List Text → Option (List Row)
taken app words = if is_empty (fault_of app words) then Some (matches_of app words) else None
