-- Journals that keep every rule, and yet are not those of a session of lines: some input was not served in full,
-- or was served at another moment. The last one starts a run while an answer is due.
use Rattle.std.specs.Prelude.{List, slice_set, swap, take}
use Rattle.fnc_journal.specs.declared.entry.Answer.{Answer}
use Rattle.fnc_journal.specs.declared.entry.Entry.{Entry}
use Rattle.fnc_journal.specs.declared.entry.Kind.{Kind}
use Rattle.fnc_journal.specs.declared.entry.Phase.{Phase}
use Rattle.fnc_worked.specs.Entries.{◌▸◌, pass, reply, start}
use Rattle.fnc_worked.specs.OneDevice.{first_try}
use Rattle.fnc_worked.specs.Deadlines.{both_totals}
use Rattle.fnc_worked.specs.SplitReboots.{total_in_off_phase}
use Rattle.fnc_worked.specs.Limits.{limit_by_name}
use Rattle.fnc_worked.specs.Delays.{delay_over}

-- the session ends before a start that can be made
abbrev pub no_start : List Entry
no_start = take 2 first_try.entries

-- the next input comes before it
abbrev pub start_passed_over : List Entry
start_passed_over = slice_set delay_over.entries 4 (7_004 ▸ pass)

-- the session ends before a reply that is due
abbrev pub no_reply : List Entry
no_reply = take 4 first_try.entries

-- a start has another moment than its input
abbrev pub late_start : List Entry
late_start = slice_set first_try.entries 2 (11 ▸ start 0 0 Phase.Act 1 0 0 Kind.Off 1)

-- a reply has
abbrev pub late_reply : List Entry
late_reply = slice_set first_try.entries 4 (13 ▸ reply 0 (Answer.Passed 1))

-- the reply of an advance has another moment than the next input
abbrev pub advance_before_its_input : List Entry
advance_before_its_input = slice_set total_in_off_phase.entries 8 (5_001 ▸ pass)

-- the replies of an advance that no input follows have two moments
abbrev pub two_advances : List Entry
two_advances = take 6 (slice_set both_totals.entries 5 (600_001 ▸ reply 1 Answer.Time))

-- a start comes before the reply that is due
abbrev pub start_before_reply : List Entry
start_before_reply = swap limit_by_name.entries 6 7
