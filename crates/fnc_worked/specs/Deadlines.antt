-- Times that end: an action's, which leaves its run alive, and an operation's total.
use Rattle.std.specs.Prelude.{[], ◌∷◌, false}
use Rattle.fnc_journal.specs.declared.entry.Answer.{Answer}
use Rattle.fnc_journal.specs.declared.entry.Kind.{Kind}
use Rattle.fnc_journal.specs.declared.entry.Phase.{Phase}
use Rattle.fnc_journal.specs.declared.entry.Scope.{Scope}
use Rattle.fnc_worked.specs.Entries.{◌▸◌, device, name, level, ask, start, exit, pass, reply}
use Rattle.fnc_worked.specs.Devices.{plain, off_timeout}
use Rattle.fnc_worked.specs.Sessions.{Session}

-- a success after the action's end counts nowhere
abbrev pub late_success : Session
late_success = record {
  entries =
      0 ▸ device 0 "a" (off_timeout 10_000)
      ∷ 0 ▸ device 1 "b" plain
      ∷ 0 ▸ level 1 (name "n1") ("a" ∷ [])
      ∷ 0 ▸ level 2 (name "n1") ("b" ∷ [])
      ∷ 0 ▸ ask 0 0 "c1" Kind.Off "n1" 600_000 0 Scope.Name
      ∷ 0 ▸ start 0 0 Phase.Act 1 0 0 Kind.Off 1
      ∷ 10_000 ▸ pass
      ∷ 10_000 ▸ start 1 0 Phase.Act 2 0 1 Kind.Off 1
      ∷ 10_001 ▸ exit 0 0 false
      ∷ 10_002 ▸ exit 1 0 false
      ∷ 10_002 ▸ reply 0 (Answer.Passed 2)
      ∷ [];
  output =
      "start 0 a off n1 try 1"
      ∷ "start 1 b off n1 try 1"
      ∷ "answer 0 ok level 2"
      ∷ "end asked 1 answered 1 alive 0"
      ∷ [];
}

-- a success at the very limit is late
abbrev pub at_the_limit : Session
at_the_limit = record {
  entries =
      0 ▸ device 0 "a" (off_timeout 10_000)
      ∷ 0 ▸ device 1 "b" plain
      ∷ 0 ▸ level 1 (name "n1") ("a" ∷ [])
      ∷ 0 ▸ level 2 (name "n1") ("b" ∷ [])
      ∷ 0 ▸ ask 0 0 "c1" Kind.Off "n1" 600_000 0 Scope.Name
      ∷ 0 ▸ start 0 0 Phase.Act 1 0 0 Kind.Off 1
      ∷ 10_000 ▸ exit 0 0 false
      ∷ 10_000 ▸ start 1 0 Phase.Act 2 0 1 Kind.Off 1
      ∷ 10_001 ▸ exit 1 0 false
      ∷ 10_001 ▸ reply 0 (Answer.Passed 2)
      ∷ [];
  output =
      "start 0 a off n1 try 1"
      ∷ "start 1 b off n1 try 1"
      ∷ "answer 0 ok level 2"
      ∷ "end asked 1 answered 1 alive 0"
      ∷ [];
}

-- one a millisecond earlier is in time
abbrev pub below_the_limit : Session
below_the_limit = record {
  entries =
      0 ▸ device 0 "a" (off_timeout 10_000)
      ∷ 0 ▸ device 1 "b" plain
      ∷ 0 ▸ level 1 (name "n1") ("a" ∷ [])
      ∷ 0 ▸ level 2 (name "n1") ("b" ∷ [])
      ∷ 0 ▸ ask 0 0 "c1" Kind.Off "n1" 600_000 0 Scope.Name
      ∷ 0 ▸ start 0 0 Phase.Act 1 0 0 Kind.Off 1
      ∷ 9_999 ▸ exit 0 0 false
      ∷ 9_999 ▸ reply 0 (Answer.Passed 1)
      ∷ [];
  output =
      "start 0 a off n1 try 1"
      ∷ "answer 0 ok level 1"
      ∷ "end asked 1 answered 1 alive 0"
      ∷ [];
}

-- a slot is ready from the end of the action before, and not from the event that noticed it
abbrev pub ready_at_the_end : Session
ready_at_the_end = record {
  entries =
      0 ▸ device 0 "a" (off_timeout 10_000)
      ∷ 0 ▸ device 1 "c" (off_timeout 8_000)
      ∷ 0 ▸ device 2 "b" plain
      ∷ 0 ▸ level 1 (name "n1") ("a" ∷ [])
      ∷ 0 ▸ level 2 (name "n1") ("b" ∷ [])
      ∷ 0 ▸ level 1 (name "n2") ("c" ∷ [])
      ∷ 0 ▸ level 2 (name "n2") ("b" ∷ [])
      ∷ 0 ▸ ask 0 0 "c1" Kind.Off "n1" 600_000 0 Scope.Name
      ∷ 0 ▸ start 0 0 Phase.Act 1 0 0 Kind.Off 1
      ∷ 0 ▸ ask 1 1 "c2" Kind.Off "n2" 600_000 0 Scope.Name
      ∷ 0 ▸ start 1 1 Phase.Act 1 0 1 Kind.Off 1
      ∷ 12_000 ▸ pass
      ∷ 12_000 ▸ start 2 1 Phase.Act 2 0 2 Kind.Off 1
      ∷ [];
  output =
      "start 0 a off n1 try 1"
      ∷ "start 1 c off n2 try 1"
      ∷ "start 2 b off n2 try 1"
      ∷ "end asked 2 answered 0 alive 3"
      ∷ [];
}

-- at one moment one operation has lost its level and another one its time
abbrev pub both_totals : Session
both_totals = record {
  entries =
      0 ▸ device 0 "d1" plain
      ∷ 0 ▸ ask 0 0 "c1" Kind.Off "n1" 600_000 0 Scope.Nothing
      ∷ 0 ▸ start 0 0 Phase.Act 1 0 0 Kind.Off 1
      ∷ 0 ▸ ask 1 1 "c2" Kind.Off "n2" 600_000 0 Scope.Nothing
      ∷ 600_000 ▸ reply 0 Answer.Levels
      ∷ 600_000 ▸ reply 1 Answer.Time
      ∷ 600_000 ▸ pass
      ∷ [];
  output =
      "start 0 d1 off n1 try 1"
      ∷ "answer 0 failed levels"
      ∷ "answer 1 failed time"
      ∷ "end asked 2 answered 2 alive 1"
      ∷ [];
}

-- a joiner waits for the total of the first request, and not for its own
abbrev pub merged_total : Session
merged_total = record {
  entries =
      0 ▸ device 0 "d1" plain
      ∷ 0 ▸ ask 0 0 "c1" Kind.Off "n1" 5_000 0 Scope.Nothing
      ∷ 0 ▸ start 0 0 Phase.Act 1 0 0 Kind.Off 1
      ∷ 1 ▸ ask 1 0 "c2" Kind.Off "n1" 50_000 0 Scope.Nothing
      ∷ 5_000 ▸ reply 0 Answer.Time
      ∷ 5_000 ▸ reply 1 Answer.Time
      ∷ 5_000 ▸ pass
      ∷ [];
  output =
      "start 0 d1 off n1 try 1"
      ∷ "answer 0 failed time"
      ∷ "answer 1 failed time"
      ∷ "end asked 2 answered 2 alive 1"
      ∷ [];
}

-- the replies of an advance stay where its own line found no room in the journal
abbrev pub no_room : Session
no_room = record {
  entries =
      0 ▸ device 0 "d1" plain
      ∷ 0 ▸ ask 0 0 "c1" Kind.Off "n1" 5_000 0 Scope.Nothing
      ∷ 0 ▸ start 0 0 Phase.Act 1 0 0 Kind.Off 1
      ∷ 5_000 ▸ reply 0 Answer.Time
      ∷ [];
  output =
      "start 0 d1 off n1 try 1"
      ∷ "answer 0 failed time"
      ∷ "end asked 1 answered 1 alive 1"
      ∷ [];
}
