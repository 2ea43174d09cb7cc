-- Sessions with one change that makes a start wrong.
use Rattle.std.specs.Prelude.{List, slice_set, insert}
use Rattle.fnc_journal.specs.declared.entry.Entry.{Entry}
use Rattle.fnc_journal.specs.declared.entry.Kind.{Kind}
use Rattle.fnc_journal.specs.declared.entry.Phase.{Phase}
use Rattle.fnc_worked.specs.Entries.{◌▸◌, start}
use Rattle.fnc_worked.specs.OneDevice.{second_try, without_reboot, by_priority}
use Rattle.fnc_worked.specs.Topology.{snapshot, unfit}
use Rattle.fnc_worked.specs.Deadlines.{ready_at_the_end}
use Rattle.fnc_worked.specs.SplitReboots.{split_reboot}
use Rattle.fnc_worked.specs.Limits.{limit_by_name, retry_waits, place_held, own_limit}
use Rattle.fnc_worked.specs.Delays.{delay_over}
use Rattle.fnc_worked.specs.Queries.{not_listed, kept_yes}

-- before the delay is over
abbrev pub too_early : List Entry
too_early = insert delay_over.entries 3 (7_002 ▸ start 0 0 Phase.Act 1 0 0 Kind.Off 1)

-- over the device's limit, of which an earlier registration holds the place
abbrev pub over_the_limit : List Entry
over_the_limit = insert limit_by_name.entries 5 (1 ▸ start 1 1 Phase.Act 1 0 1 Kind.Off 1)

-- over the limit of the registration that was planned with, although the current one has room
abbrev pub over_its_own_limit : List Entry
over_its_own_limit = insert own_limit.entries 7 (0 ▸ start 2 1 Phase.Act 1 0 0 Kind.Off 1)

-- in the place of a run that is past its limit, and alive
abbrev pub place_freed : List Entry
place_freed = insert place_held.entries 9 (10_000 ▸ start 2 1 Phase.Act 1 0 0 Kind.Off 1)

-- a second run of the slot while the first is alive
abbrev pub two_runs : List Entry
two_runs = insert second_try.entries 3 (10 ▸ start 1 0 Phase.Act 1 0 0 Kind.Off 2)

-- the attempt is the second
abbrev pub other_attempt : List Entry
other_attempt = slice_set second_try.entries 4 (12 ▸ start 1 0 Phase.Act 1 0 0 Kind.Off 1)

-- the device has no `reboot`
abbrev pub lacking_action : List Entry
lacking_action = slice_set without_reboot.entries 3 (1 ▸ start 0 0 Phase.Act 1 0 0 Kind.Reboot 1)

-- the candidate of the lower priority
abbrev pub lower_priority : List Entry
lower_priority = slice_set by_priority.entries 3 (0 ▸ start 0 0 Phase.Act 1 0 0 Kind.Off 1)

-- the device of the level as it is now, and not as it was when the operation began
abbrev pub topology_now : List Entry
topology_now = slice_set snapshot.entries 8 (3 ▸ start 1 0 Phase.Act 1 0 1 Kind.Off 1)

-- the level with the unfit device, by its number
abbrev pub lost_level : List Entry
lost_level = slice_set unfit.entries 4 (0 ▸ start 0 0 Phase.Act 1 0 0 Kind.Off 1)

-- an Act slot in a split reboot
abbrev pub not_split : List Entry
not_split = slice_set split_reboot.entries 4 (1 ▸ start 0 0 Phase.Act 1 0 0 Kind.Reboot 1)

-- the second off while the first is alive
abbrev pub two_at_once : List Entry
two_at_once = insert split_reboot.entries 5 (1 ▸ start 1 0 Phase.Off 1 1 1 Kind.Off 1)

-- the second try of one request before the first try of another that was ready earlier
abbrev pub retry_first : List Entry
retry_first = slice_set retry_waits.entries 5 (1 ▸ start 1 0 Phase.Act 1 0 0 Kind.Off 2)

-- the operation that was ready later
abbrev pub later_first : List Entry
later_first = slice_set ready_at_the_end.entries 12 (12_000 ▸ start 2 0 Phase.Act 2 0 2 Kind.Off 1)

-- a device whose list lacks the node
abbrev pub not_capable : List Entry
not_capable = slice_set not_listed.entries 6 (1 ▸ start 1 0 Phase.Act 1 0 0 Kind.Off 1)

-- a query although an answer is kept
abbrev pub asked_again : List Entry
asked_again = slice_set kept_yes.entries 9 (60_000 ▸ start 2 1 Phase.Query 0 0 0 Kind.List 1)

-- no query although the answer is kept no longer
abbrev pub kept_too_long : List Entry
kept_too_long = slice_set kept_yes.entries 13 (60_001 ▸ start 3 2 Phase.Act 1 0 0 Kind.Off 1)
