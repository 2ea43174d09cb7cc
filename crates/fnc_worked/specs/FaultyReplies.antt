-- Sessions with one change that makes a reply wrong, or leaves one out.
use Rattle.std.specs.Prelude.{List, false, slice_set, insert, remove, swap}
use Rattle.fnc_journal.specs.declared.entry.Answer.{Answer}
use Rattle.fnc_journal.specs.declared.entry.Entry.{Entry}
use Rattle.fnc_worked.specs.Entries.{◌▸◌, device, exit, pass, reply}
use Rattle.fnc_worked.specs.Devices.{off_timeout}
use Rattle.fnc_worked.specs.OneDevice.{first_try, both_fail, merged}
use Rattle.fnc_worked.specs.Topology.{no_reuse}
use Rattle.fnc_worked.specs.Deadlines.{below_the_limit, both_totals}
use Rattle.fnc_worked.specs.SplitReboots.{split_reboot, total_in_on_phase, total_in_off_phase}
use Rattle.fnc_worked.specs.Limits.{limit_by_name}
use Rattle.fnc_worked.specs.Queries.{not_listed}
use Rattle.fnc_worked.specs.Confirmed.{confirmed, confirmed_before}

-- the run failed: an exit code
abbrev pub failed_run : List Entry
failed_run = slice_set first_try.entries 3 (12 ▸ exit 0 1 false)

-- the action ends at the moment of the exit
abbrev pub exit_at_the_limit : List Entry
exit_at_the_limit = slice_set below_the_limit.entries 0 (0 ▸ device 0 "a" (off_timeout 9_999))

-- the first reply is left out, and the next input comes
abbrev pub reply_left_out : List Entry
reply_left_out = remove limit_by_name.entries 6

-- the total is over, and no reply is given before the input
abbrev pub advance_left_out : List Entry
advance_left_out = remove total_in_off_phase.entries 7

-- the second requester is answered first
abbrev pub swapped_requesters : List Entry
swapped_requesters = swap merged.entries 5 6

-- the second operation is answered first
abbrev pub swapped_operations : List Entry
swapped_operations = swap both_totals.entries 4 5

-- a second answer
abbrev pub second_answer : List Entry
second_answer = insert first_try.entries 5 (12 ▸ reply 0 (Answer.Passed 1))

-- the second requester gets another answer
abbrev pub other_answer : List Entry
other_answer = slice_set merged.entries 6 (2 ▸ reply 1 Answer.Levels)

-- the second requester gets the answer at another moment
abbrev pub later_answer : List Entry
later_answer = slice_set merged.entries 6 (3 ▸ reply 1 (Answer.Passed 1))

-- an input comes between the replies to the two requesters
abbrev pub input_between : List Entry
input_between = insert merged.entries 6 (2 ▸ pass)

-- level 2 passes by what its device confirmed in level 1
abbrev pub borrowed_confirmation : List Entry
borrowed_confirmation = insert no_reuse.entries 11 (4 ▸ reply 0 (Answer.Passed 2))

-- time remains
abbrev pub early_time : List Entry
early_time = slice_set total_in_off_phase.entries 7 (4_999 ▸ reply 0 Answer.Time)

-- the level passes after its first off
abbrev pub early_pass : List Entry
early_pass = insert split_reboot.entries 6 (2 ▸ reply 0 (Answer.Passed 1))

-- the level passes before its on phase
abbrev pub no_on_phase : List Entry
no_on_phase = insert split_reboot.entries 8 (3 ▸ reply 0 (Answer.Passed 1))

-- a total that ends in the on phase is a failure
abbrev pub time_in_on_phase : List Entry
time_in_on_phase = slice_set total_in_on_phase.entries 9 (5_000 ▸ reply 0 Answer.Time)

-- one of two tries failed
abbrev pub gives_up_early : List Entry
gives_up_early = insert both_fail.entries 4 (12 ▸ reply 0 Answer.Levels)

-- another level passed
abbrev pub other_level : List Entry
other_level = slice_set first_try.entries 4 (12 ▸ reply 0 (Answer.Passed 2))

-- none is capable, although a candidate without a query is
abbrev pub one_is_capable : List Entry
one_is_capable = insert not_listed.entries 6 (1 ▸ reply 0 Answer.NoDevice)

-- an operator's word answers a request for `on`
abbrev pub confirmed_on : List Entry
confirmed_on = insert confirmed.entries 6 (2 ▸ reply 1 Answer.Confirmed)

-- it answers a request that came after it
abbrev pub confirmed_too_early : List Entry
confirmed_too_early = insert confirmed_before.entries 3 (0 ▸ reply 0 Answer.Confirmed)
