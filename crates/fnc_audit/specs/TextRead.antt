-- What the lines of a text are read as, one after another: the first line of a journal's text, and then its entries.
use Rattle.std.specs.Prelude.{ℕ, List, [], ◌∷◌, ◌+◌, length, nat_lt, if◌then◌else◌, Result, Ok, Err, bytes_eq}
use Rattle.std.specs.List.{fold}
use Rattle.fnc_journal.specs.declared.entry.Entry.{Entry}
use Rattle.fnc_journal.specs.History.{History}
use Rattle.fnc_outside.specs.Events.{Happening}
use Rattle.fnc_journal_text.specs.Paper.{head_line}
use Rattle.fnc_journal_reader.specs.declared.fault.EntryFault.{EntryFault}
use Rattle.fnc_journal_reader.specs.Spells.{entry_in}

-- What lines are read as: nothing, where none came; the entries that they spell, the newest first; the number, from 1,
-- of the first one that is not the first line of a text in first place or the line of an entry later; or, where no such
-- line came before it, an entry above the limit.
pub data TextRead : Type 0 where
  Nothing : TextRead
  Entries : (history : History) → TextRead
  Bad : (line : ℕ) → TextRead
  Above : TextRead

-- with a line more that is not what it should be
abbrev pub bad : TextRead → TextRead
bad TextRead.Nothing = TextRead.Bad 1
bad (TextRead.Entries h) = TextRead.Bad (length h + 2)
bad read = read

-- with an entry more, where the line spells one
abbrev pub with_entry : ℕ → History → Result Entry EntryFault → TextRead
with_entry limit h (Ok e) = if nat_lt (length h) limit then TextRead.Entries (e ∷ h) else TextRead.Above
with_entry limit h (Err fault) = TextRead.Bad (length h + 2)

-- with a line more
abbrev pub with_line : ℕ → TextRead → List ℕ → TextRead
with_line limit TextRead.Nothing line = if bytes_eq line head_line then TextRead.Entries [] else TextRead.Bad 1
with_line limit (TextRead.Entries h) line = with_entry limit h (entry_in line)
with_line limit read line = read

-- with an event more: a line that was too long for the buffer is a bad one
abbrev pub with_event : ℕ → TextRead → Happening → TextRead
with_event limit read (Happening.Line bytes) = with_line limit read bytes
with_event limit read (Happening.TooLong size) = bad read
with_event limit read Happening.Again = read

-- what the events so far are read as, the first of them first
abbrev pub text_read : ℕ → List Happening → TextRead
text_read limit events = fold (with_event limit) TextRead.Nothing events

-- each line so far was what it should be
abbrev pub IsGood : TextRead → Type 0
IsGood TextRead.Nothing = Unit {0}
IsGood (TextRead.Entries h) = Unit {0}
IsGood _ = ⊥
