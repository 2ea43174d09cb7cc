-- Devices that are asked whether they can fence the node, and list answers that are kept.
use Rattle.std.specs.Prelude.{[], ◌∷◌, true, false}
use Rattle.fnc_journal.specs.declared.entry.Answer.{Answer}
use Rattle.fnc_journal.specs.declared.entry.Kind.{Kind}
use Rattle.fnc_journal.specs.declared.entry.Phase.{Phase}
use Rattle.fnc_journal.specs.declared.entry.Scope.{Scope}
use Rattle.fnc_worked.specs.Entries.{◌▸◌, agent, device, ask, start, exit, pass, reply}
use Rattle.fnc_worked.specs.Devices.{plain, listing, list_actions, status, status_actions, listing_two_places}
use Rattle.fnc_worked.specs.Sessions.{Session}

-- the list has the node, so the device that was asked is the first of two capable ones
abbrev pub listed : Session
listed = record {
  entries =
      0 ▸ agent "fence_v" list_actions
      ∷ 0 ▸ device 0 "d1" (listing 0)
      ∷ 0 ▸ device 1 "d2" plain
      ∷ 0 ▸ ask 0 0 "c1" Kind.Off "n1" 600_000 0 Scope.Nothing
      ∷ 0 ▸ start 0 0 Phase.Query 0 0 0 Kind.List 1
      ∷ 1 ▸ exit 0 0 true
      ∷ 1 ▸ start 1 0 Phase.Act 1 0 0 Kind.Off 1
      ∷ 2 ▸ exit 1 0 false
      ∷ 2 ▸ reply 0 (Answer.Passed 1)
      ∷ [];
  output =
      "start 0 d1 list n1 try 1"
      ∷ "start 1 d1 off n1 try 1"
      ∷ "answer 0 ok level 1"
      ∷ "end asked 1 answered 1 alive 0"
      ∷ [];
}

-- the list lacks the node, so the other device is the only level
abbrev pub not_listed : Session
not_listed = record {
  entries =
      0 ▸ agent "fence_v" list_actions
      ∷ 0 ▸ device 0 "d1" (listing 0)
      ∷ 0 ▸ device 1 "d2" plain
      ∷ 0 ▸ ask 0 0 "c1" Kind.Off "n1" 600_000 0 Scope.Nothing
      ∷ 0 ▸ start 0 0 Phase.Query 0 0 0 Kind.List 1
      ∷ 1 ▸ exit 0 0 false
      ∷ 1 ▸ start 1 0 Phase.Act 1 0 1 Kind.Off 1
      ∷ 2 ▸ exit 1 0 false
      ∷ 2 ▸ reply 0 (Answer.Passed 1)
      ∷ [];
  output =
      "start 0 d1 list n1 try 1"
      ∷ "start 1 d2 off n1 try 1"
      ∷ "answer 0 ok level 1"
      ∷ "end asked 1 answered 1 alive 0"
      ∷ [];
}

-- status 2 answers a status query
abbrev pub status_off : Session
status_off = record {
  entries =
      0 ▸ agent "fence_s" status_actions
      ∷ 0 ▸ device 0 "d1" status
      ∷ 0 ▸ ask 0 0 "c1" Kind.Off "n1" 600_000 0 Scope.Nothing
      ∷ 0 ▸ start 0 0 Phase.Query 0 0 0 Kind.Status 1
      ∷ 1 ▸ exit 0 2 false
      ∷ 1 ▸ start 1 0 Phase.Act 1 0 0 Kind.Off 1
      ∷ 2 ▸ exit 1 0 false
      ∷ 2 ▸ reply 0 (Answer.Passed 1)
      ∷ [];
  output =
      "start 0 d1 status n1 try 1"
      ∷ "start 1 d1 off n1 try 1"
      ∷ "answer 0 ok level 1"
      ∷ "end asked 1 answered 1 alive 0"
      ∷ [];
}

-- status 1 is a failed try
abbrev pub status_fails : Session
status_fails = record {
  entries =
      0 ▸ agent "fence_s" status_actions
      ∷ 0 ▸ device 0 "d1" status
      ∷ 0 ▸ ask 0 0 "c1" Kind.Off "n1" 600_000 0 Scope.Nothing
      ∷ 0 ▸ start 0 0 Phase.Query 0 0 0 Kind.Status 1
      ∷ 1 ▸ exit 0 1 false
      ∷ 1 ▸ start 1 0 Phase.Query 0 0 0 Kind.Status 2
      ∷ 2 ▸ exit 1 1 false
      ∷ 2 ▸ reply 0 Answer.NoDevice
      ∷ [];
  output =
      "start 0 d1 status n1 try 1"
      ∷ "start 1 d1 status n1 try 2"
      ∷ "answer 0 failed none"
      ∷ "end asked 1 answered 1 alive 0"
      ∷ [];
}

-- a list answer of moment 1 is kept to moment 60000, and no longer
abbrev pub kept_yes : Session
kept_yes = record {
  entries =
      0 ▸ agent "fence_v" list_actions
      ∷ 0 ▸ device 0 "d1" (listing 60_000)
      ∷ 0 ▸ ask 0 0 "c1" Kind.Off "n1" 600_000 0 Scope.Nothing
      ∷ 0 ▸ start 0 0 Phase.Query 0 0 0 Kind.List 1
      ∷ 1 ▸ exit 0 0 true
      ∷ 1 ▸ start 1 0 Phase.Act 1 0 0 Kind.Off 1
      ∷ 2 ▸ exit 1 0 false
      ∷ 2 ▸ reply 0 (Answer.Passed 1)
      ∷ 60_000 ▸ ask 1 1 "c2" Kind.Off "n1" 600_000 0 Scope.Nothing
      ∷ 60_000 ▸ start 2 1 Phase.Act 1 0 0 Kind.Off 1
      ∷ 60_001 ▸ exit 2 0 false
      ∷ 60_001 ▸ reply 1 (Answer.Passed 1)
      ∷ 60_001 ▸ ask 2 2 "c3" Kind.Off "n1" 600_000 0 Scope.Nothing
      ∷ 60_001 ▸ start 3 2 Phase.Query 0 0 0 Kind.List 1
      ∷ [];
  output =
      "start 0 d1 list n1 try 1"
      ∷ "start 1 d1 off n1 try 1"
      ∷ "answer 0 ok level 1"
      ∷ "start 2 d1 off n1 try 1"
      ∷ "answer 1 ok level 1"
      ∷ "start 3 d1 list n1 try 1"
      ∷ "end asked 3 answered 2 alive 1"
      ∷ [];
}

-- a kept no leaves the device out
abbrev pub kept_no : Session
kept_no = record {
  entries =
      0 ▸ agent "fence_v" list_actions
      ∷ 0 ▸ device 0 "d1" (listing 60_000)
      ∷ 0 ▸ ask 0 0 "c1" Kind.Off "n1" 600_000 0 Scope.Nothing
      ∷ 0 ▸ start 0 0 Phase.Query 0 0 0 Kind.List 1
      ∷ 1 ▸ exit 0 0 false
      ∷ 1 ▸ reply 0 Answer.NoDevice
      ∷ 2 ▸ ask 1 1 "c2" Kind.Off "n1" 600_000 0 Scope.Nothing
      ∷ 2 ▸ reply 1 Answer.NoDevice
      ∷ [];
  output =
      "start 0 d1 list n1 try 1"
      ∷ "answer 0 failed none"
      ∷ "answer 1 failed none"
      ∷ "end asked 2 answered 2 alive 0"
      ∷ [];
}

-- an exit with status 1 is a failed try, whatever it lists; one with status 0 answers, whatever it lists
abbrev pub listed_but_failed : Session
listed_but_failed = record {
  entries =
      0 ▸ agent "fence_v" list_actions
      ∷ 0 ▸ device 0 "d1" (listing 0)
      ∷ 0 ▸ ask 0 0 "c1" Kind.Off "n1" 600_000 0 Scope.Nothing
      ∷ 0 ▸ start 0 0 Phase.Query 0 0 0 Kind.List 1
      ∷ 1 ▸ exit 0 1 true
      ∷ 1 ▸ start 1 0 Phase.Query 0 0 0 Kind.List 2
      ∷ 2 ▸ exit 1 0 false
      ∷ 2 ▸ reply 0 Answer.NoDevice
      ∷ [];
  output =
      "start 0 d1 list n1 try 1"
      ∷ "start 1 d1 list n1 try 2"
      ∷ "answer 0 failed none"
      ∷ "end asked 1 answered 1 alive 0"
      ∷ [];
}

-- the query ended before the total, although both are over when it is noticed
abbrev pub query_ends : Session
query_ends = record {
  entries =
      0 ▸ agent "fence_v" list_actions
      ∷ 0 ▸ device 0 "d1" (listing 0)
      ∷ 0 ▸ ask 0 0 "c1" Kind.Off "n1" 600_000 0 Scope.Nothing
      ∷ 0 ▸ start 0 0 Phase.Query 0 0 0 Kind.List 1
      ∷ 600_000 ▸ reply 0 Answer.NoDevice
      ∷ 600_000 ▸ pass
      ∷ [];
  output =
      "start 0 d1 list n1 try 1"
      ∷ "answer 0 failed none"
      ∷ "end asked 1 answered 1 alive 1"
      ∷ [];
}

-- the total is over while the query waits
abbrev pub query_total : Session
query_total = record {
  entries =
      0 ▸ agent "fence_v" list_actions
      ∷ 0 ▸ device 0 "d1" (listing 0)
      ∷ 0 ▸ ask 0 0 "c1" Kind.Off "n1" 5_000 0 Scope.Nothing
      ∷ 0 ▸ start 0 0 Phase.Query 0 0 0 Kind.List 1
      ∷ 5_000 ▸ reply 0 Answer.Time
      ∷ 5_000 ▸ pass
      ∷ [];
  output =
      "start 0 d1 list n1 try 1"
      ∷ "answer 0 failed time"
      ∷ "end asked 1 answered 1 alive 1"
      ∷ [];
}

-- an answer that was late for its own operation is kept
abbrev pub kept_late : Session
kept_late = record {
  entries =
      0 ▸ agent "fence_v" list_actions
      ∷ 0 ▸ device 0 "d1" (listing 60_000)
      ∷ 0 ▸ ask 0 0 "c1" Kind.Off "n1" 600_000 0 Scope.Nothing
      ∷ 0 ▸ start 0 0 Phase.Query 0 0 0 Kind.List 1
      ∷ 60_000 ▸ reply 0 Answer.NoDevice
      ∷ 60_000 ▸ pass
      ∷ 60_001 ▸ exit 0 0 true
      ∷ 60_002 ▸ ask 1 1 "c2" Kind.Off "n1" 600_000 0 Scope.Nothing
      ∷ 60_002 ▸ start 1 1 Phase.Act 1 0 0 Kind.Off 1
      ∷ [];
  output =
      "start 0 d1 list n1 try 1"
      ∷ "answer 0 failed none"
      ∷ "start 1 d1 off n1 try 1"
      ∷ "end asked 2 answered 1 alive 1"
      ∷ [];
}

-- of two operations for one node the later list answer is kept
abbrev pub later_no : Session
later_no = record {
  entries =
      0 ▸ agent "v" list_actions
      ∷ 0 ▸ device 0 "d" listing_two_places
      ∷ 0 ▸ ask 0 0 "c" Kind.Off "n1" 600_000 0 Scope.Nothing
      ∷ 0 ▸ start 0 0 Phase.Query 0 0 0 Kind.List 1
      ∷ 0 ▸ ask 1 1 "c" Kind.Reboot "n1" 600_000 0 Scope.Nothing
      ∷ 0 ▸ start 1 1 Phase.Query 0 0 0 Kind.List 1
      ∷ 1 ▸ exit 0 0 true
      ∷ 1 ▸ start 2 0 Phase.Act 1 0 0 Kind.Off 1
      ∷ 2 ▸ exit 1 0 false
      ∷ 2 ▸ reply 1 Answer.NoDevice
      ∷ 2 ▸ ask 2 2 "c" Kind.On "n1" 600_000 0 Scope.Nothing
      ∷ 2 ▸ reply 2 Answer.NoDevice
      ∷ [];
  output =
      "start 0 d list n1 try 1"
      ∷ "start 1 d list n1 try 1"
      ∷ "start 2 d off n1 try 1"
      ∷ "answer 1 failed none"
      ∷ "answer 2 failed none"
      ∷ "end asked 3 answered 2 alive 1"
      ∷ [];
}
