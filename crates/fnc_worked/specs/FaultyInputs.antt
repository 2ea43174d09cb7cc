-- Sessions with one change that makes an input wrong.
use Rattle.std.specs.Prelude.{List, false, slice_set, insert}
use Rattle.fnc_journal.specs.declared.entry.Entry.{Entry}
use Rattle.fnc_journal.specs.declared.entry.Kind.{Kind}
use Rattle.fnc_journal.specs.declared.entry.Scope.{Scope}
use Rattle.fnc_worked.specs.Entries.{◌▸◌, ask, device, exit, gone, name, pass, unlevel}
use Rattle.fnc_worked.specs.Devices.{plain}
use Rattle.fnc_worked.specs.OneDevice.{first_try, merged}
use Rattle.fnc_worked.specs.Topology.{no_reuse, snapshot, pattern_order}
use Rattle.fnc_worked.specs.SplitReboots.{asked_in_on_phase}

-- a request that could join leads itself: a wrong lead
abbrev pub wrong_lead : List Entry
wrong_lead = slice_set merged.entries 3 (1 ▸ ask 1 1 "c2" Kind.Off "n1" 600_000 0 Scope.Nothing)

-- a request joins an operation of another kind
abbrev pub other_kind : List Entry
other_kind = slice_set merged.entries 3 (1 ▸ ask 1 0 "c2" Kind.On "n1" 600_000 0 Scope.Nothing)

-- a request joins an operation in its on phase
abbrev pub joined_in_on_phase : List Entry
joined_in_on_phase = slice_set asked_in_on_phase.entries 9 (4 ▸ ask 1 0 "c2" Kind.Reboot "n1" 600_000 0 Scope.Name)

-- the run has had its exit
abbrev pub second_exit : List Entry
second_exit = insert first_try.entries 5 (12 ▸ exit 0 0 false)

-- there was no such run
abbrev pub no_run : List Entry
no_run = slice_set first_try.entries 3 (12 ▸ exit 1 0 false)

-- the moment falls
abbrev pub moment_falls : List Entry
moment_falls = slice_set first_try.entries 3 (9 ▸ exit 0 0 false)

-- the moment is past the end of all moments
abbrev pub moment_past_the_end : List Entry
moment_past_the_end = insert first_try.entries 5 (1_000_000_000_000_001 ▸ pass)

-- the number of a registration is left out
abbrev pub registration_left_out : List Entry
registration_left_out = slice_set first_try.entries 0 (0 ▸ device 1 "d1" plain)

-- the number of a request is left out
abbrev pub request_left_out : List Entry
request_left_out = slice_set first_try.entries 1 (10 ▸ ask 1 1 "c1" Kind.Off "n1" 600_000 0 Scope.Nothing)

-- a request asks for a list
abbrev pub asks_for_list : List Entry
asks_for_list = slice_set first_try.entries 1 (10 ▸ ask 0 0 "c1" Kind.List "n1" 600_000 0 Scope.Nothing)

-- a request has no time
abbrev pub no_time : List Entry
no_time = slice_set first_try.entries 1 (10 ▸ ask 0 0 "c1" Kind.Off "n1" 0 0 Scope.Nothing)

-- a request has more than a day
abbrev pub too_much_time : List Entry
too_much_time = slice_set first_try.entries 1 (10 ▸ ask 0 0 "c1" Kind.Off "n1" 86_400_001 0 Scope.Nothing)

-- no level stands for the name
abbrev pub no_levels : List Entry
no_levels = slice_set first_try.entries 1 (10 ▸ ask 0 0 "c1" Kind.Off "n1" 600_000 0 Scope.Name)

-- a level stands for the name
abbrev pub levels_passed_over : List Entry
levels_passed_over = slice_set no_reuse.entries 4 (1 ▸ ask 0 0 "c1" Kind.Off "n1" 600_000 0 Scope.Nothing)

-- the pattern has an older entry that does not stand
abbrev pub replaced_pattern : List Entry
replaced_pattern = slice_set pattern_order.entries 6 (0 ▸ ask 0 0 "c1" Kind.Off "n1" 600_000 0 (Scope.Pattern 3))

-- a registration that is not current is removed
abbrev pub gone_twice : List Entry
gone_twice = insert snapshot.entries 6 (1 ▸ gone 0)

-- a level that does not stand is removed
abbrev pub no_such_level : List Entry
no_such_level = insert snapshot.entries 6 (1 ▸ unlevel 2 (name "n1"))
