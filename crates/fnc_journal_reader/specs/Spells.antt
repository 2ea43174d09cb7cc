-- The entry that a line spells.
use Rattle.std.specs.Prelude.{ℕ, List, ◌&&◌, if◌then◌else◌, Result, Ok, Err, bytes_eq}
use Rattle.fnc_journal.specs.declared.entry.Entry.{Entry}
use Rattle.fnc_journal.specs.EntryBounds.{is_within}
use Rattle.fnc_journal_text.specs.Spelled.{line_of}
use Rattle.fnc_journal_reader.specs.declared.fault.EntryFault.{EntryFault}
use Rattle.fnc_journal_reader.specs.Cuts.{words}
use Rattle.fnc_journal_reader.specs.Entries.{entry_of}
use Rattle.fnc_journal_reader.specs.Reads.{◌>>=◌}

-- what was read is the entry of the line where it is within the bounds and the line is its spelling
abbrev pub spelled_by : List ℕ → Entry → Result Entry EntryFault
spelled_by line e = if is_within e && bytes_eq (line_of e) line then Ok e else Err EntryFault.Malformed

-- the entry within the bounds whose spelling a line is, Malformed where it is the spelling of none
abbrev pub entry_in : List ℕ → Result Entry EntryFault
entry_in line = entry_of (words line) >>= spelled_by line
