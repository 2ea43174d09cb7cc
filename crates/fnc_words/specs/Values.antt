-- The values that `clap` found in the words of a command.
use Rattle.std.specs.Prelude.{ℕ, List, Bool, false, Option, Some, None, codes, if◌then◌else◌}
use Rattle.std.specs.Prelude.{option_map, option_and_then}
use Rattle.std.specs.Option.{option_map_or}
use Rattle.std.specs.Str.{bytes_eq}
use Rattle.std.specs.Str.Parse.{digits_value, without_leading_plus}
use Rattle.clap.specs.Walk.{Row, Text, first_of, one_of}
use Rattle.fnc_journal.specs.Names.{is_name}
use Rattle.fnc_journal.specs.declared.limits.TheConstants as limits
use Rattle.fnc_journal_text.specs.declared.form.Form.{Form}
use Rattle.fnc_words.specs.declared.audit.Audit.{Audit}
use Rattle.fnc_words.specs.declared.course.Course.{Course}
use Rattle.fnc_words.specs.declared.inquiry.Inquiry.{Inquiry}
use Rattle.fnc_words.specs.declared.session.Session.{Session}

-- the number that a text writes
abbrev pub number_in : Text → ℕ
number_in text = digits_value 10 (without_leading_plus text)

-- the number of entries that is written, or the one that counts where none is
abbrev pub entries_of : List Row → ℕ
entries_of rows = option_map_or number_in (one_of (codes "entries") rows) limits.DEFAULT_JOURNAL

-- the journal where its flag is given, else the answers
abbrev pub form_by : Bool → Form
form_by journal = if journal then Form.Journal else Form.Answers

abbrev pub form_of : List Row → Form
form_of rows = form_by (option_map_or (λ text. bytes_eq text (codes "true")) (one_of (codes "journal") rows) false)

-- the text where it is a name
abbrev pub named_node : Text → Option Text
named_node text = if is_name text then Some text else None

-- the node that is written, where it is a name
abbrev pub node_of : List Row → Option Text
node_of rows = option_and_then named_node (first_of (codes "node") rows)

-- the number that a course begins with
abbrev pub number_of : List Row → Option ℕ
number_of rows = option_map number_in (one_of (codes "number") rows)

-- the number of steps of a course
abbrev pub count_of : List Row → Option ℕ
count_of rows = option_map number_in (one_of (codes "count") rows)

-- how a session is to run
abbrev pub session_in : List Row → Session
session_in rows = record { entries = entries_of rows; form = form_of rows }

-- how a journal is to be read
abbrev pub audit_in : List Row → Audit
audit_in rows = record { entries = entries_of rows }

-- which node is asked for, and how the journal is to be read
abbrev pub inquiry_in : List Row → Option Inquiry
inquiry_in rows = option_map (λ node. record { entries = entries_of rows; node = node }) (node_of rows)

-- which course is to run
abbrev pub course_in : List Row → Option Course
course_in rows = option_and_then (λ number. option_map (λ count. record { number = number; count = count })
    (count_of rows)) (number_of rows)
