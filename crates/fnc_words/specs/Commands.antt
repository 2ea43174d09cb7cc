-- What the words of a command line ask for. The first word names the command. The words after it are read by `clap`.
use Rattle.std.specs.Prelude.{ℕ, List, [], ◌∷◌, ◌≡◌, ◌≤◌, Option, Some, None, IsTrue, codes, bytes_eq}
use Rattle.std.specs.Prelude.{if◌then◌else◌, option_map, option_and_then}
use Rattle.clap.specs.Walk.{Text}
use Rattle.fnc_journal.specs.Names.{is_name}
use Rattle.fnc_journal.specs.declared.limits.TheConstants as limits
use Rattle.fnc_words.specs.declared.audit.Audit.{Audit}
use Rattle.fnc_words.specs.declared.command.Command.{Command}
use Rattle.fnc_words.specs.declared.command.Name.{Name}
use Rattle.fnc_words.specs.declared.command.WordsFault.{WordsFault}
use Rattle.fnc_words.specs.declared.course.Course.{Course}
use Rattle.fnc_words.specs.declared.course.TheConstants as course
use Rattle.fnc_words.specs.declared.inquiry.Inquiry.{Inquiry}
use Rattle.fnc_words.specs.declared.session.Session.{Session}
use Rattle.fnc_words.specs.Arguments.{course_app, entries_app, inquiry_app, session_app, taken}
use Rattle.fnc_words.specs.Values.{audit_in, course_in, inquiry_in, session_in}

-- the command that a word names
abbrev pub named : Text → Option Name
named word =
    if bytes_eq word (codes "replay") then Some Name.Replay
    else if bytes_eq word (codes "audit") then Some Name.Audit
    else if bytes_eq word (codes "history") then Some Name.History
    else if bytes_eq word (codes "workload") then Some Name.Workload
    else None

-- how the words of a command want its session to run
abbrev pub session_of : Text → List Text → Option Session
session_of name words = option_map session_in (taken (session_app name) words)

-- how the words of a command want a journal to be read
abbrev pub audit_of : Text → List Text → Option Audit
audit_of name words = option_map audit_in (taken (entries_app name) words)

-- which node the words of a command ask for
abbrev pub inquiry_of : Text → List Text → Option Inquiry
inquiry_of name words = option_and_then inquiry_in (taken (inquiry_app name) words)

-- which course the words of a command want to run
abbrev pub course_of : Text → List Text → Option Course
course_of name words = option_and_then course_in (taken (course_app name) words)

-- the command that words ask for, with its values
abbrev pub command_by : Option Name → List Text → Option Command
command_by None words = None
command_by (Some Name.Replay) words = option_map Command.Replay (session_of (codes "replay") words)
command_by (Some Name.Audit) words = option_map Command.Audit (audit_of (codes "audit") words)
command_by (Some Name.History) words = option_map Command.History (inquiry_of (codes "history") words)
command_by (Some Name.Workload) words = option_map Command.Workload (course_of (codes "workload") words)

abbrev pub command_of : List Text → Option Command
command_of [] = None
command_of (word ∷ words) = command_by (named word) (word ∷ words)

-- a journal may have so many entries
abbrev pub IsWithinLimits : ℕ → Type 0
IsWithinLimits entries = (limits.LEAST_JOURNAL ≤ entries) × (entries ≤ limits.GREATEST_JOURNAL)

-- a course may have so many steps
abbrev pub IsWithinSteps : ℕ → Type 0
IsWithinSteps count = (course.LEAST_STEPS ≤ count) × (count ≤ course.MOST_STEPS)

-- the values of a command are within their limits
abbrev pub HasLimits : Command → Type 0
HasLimits (Command.Replay session) = IsWithinLimits session.entries
HasLimits (Command.Audit audit) = IsWithinLimits audit.entries
HasLimits (Command.History inquiry) = IsWithinLimits inquiry.entries × IsTrue (is_name inquiry.node)
HasLimits (Command.Workload course) = IsWithinSteps course.count

-- words are refused where they ask for nothing, or for want of memory
abbrev pub IsRefused : {A : Type 0} → Option A → WordsFault → Type 0
IsRefused asked WordsFault.NoCommand = asked ≡ None
IsRefused asked WordsFault.NoMemory = Unit {0}
