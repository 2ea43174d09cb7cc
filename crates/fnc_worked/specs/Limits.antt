-- No start passes the limit of its device: all registrations of a name share one lane.
use Rattle.std.specs.Prelude.{[], ◌∷◌, false}
use Rattle.fnc_journal.specs.declared.entry.Answer.{Answer}
use Rattle.fnc_journal.specs.declared.entry.Kind.{Kind}
use Rattle.fnc_journal.specs.declared.entry.Phase.{Phase}
use Rattle.fnc_journal.specs.declared.entry.Scope.{Scope}
use Rattle.fnc_worked.specs.Entries.{◌▸◌, device, name, level, ask, start, exit, reply}
use Rattle.fnc_worked.specs.Devices.{plain, off_timeout, limit, unlimited}
use Rattle.fnc_worked.specs.Sessions.{Session}

-- the run of an earlier registration of the name holds the place
abbrev pub limit_by_name : Session
limit_by_name = record {
  entries =
      0 ▸ device 0 "d1" plain
      ∷ 0 ▸ ask 0 0 "c1" Kind.Off "n1" 600_000 0 Scope.Nothing
      ∷ 0 ▸ start 0 0 Phase.Act 1 0 0 Kind.Off 1
      ∷ 1 ▸ device 1 "d1" plain
      ∷ 1 ▸ ask 1 1 "c2" Kind.Off "n2" 600_000 0 Scope.Nothing
      ∷ 2 ▸ exit 0 0 false
      ∷ 2 ▸ reply 0 (Answer.Passed 1)
      ∷ 2 ▸ start 1 1 Phase.Act 1 0 1 Kind.Off 1
      ∷ 3 ▸ exit 1 0 false
      ∷ 3 ▸ reply 1 (Answer.Passed 1)
      ∷ [];
  output =
      "start 0 d1 off n1 try 1"
      ∷ "answer 0 ok level 1"
      ∷ "start 1 d1 off n2 try 1"
      ∷ "answer 1 ok level 1"
      ∷ "end asked 2 answered 2 alive 0"
      ∷ [];
}

-- the later registration has no limit
abbrev pub no_limit : Session
no_limit = record {
  entries =
      0 ▸ device 0 "d1" plain
      ∷ 0 ▸ ask 0 0 "c1" Kind.Off "n1" 600_000 0 Scope.Nothing
      ∷ 0 ▸ start 0 0 Phase.Act 1 0 0 Kind.Off 1
      ∷ 1 ▸ device 1 "d1" unlimited
      ∷ 1 ▸ ask 1 1 "c2" Kind.Off "n2" 600_000 0 Scope.Nothing
      ∷ 1 ▸ start 1 1 Phase.Act 1 0 1 Kind.Off 1
      ∷ 2 ▸ exit 0 0 false
      ∷ 2 ▸ reply 0 (Answer.Passed 1)
      ∷ 3 ▸ exit 1 0 false
      ∷ 3 ▸ reply 1 (Answer.Passed 1)
      ∷ [];
  output =
      "start 0 d1 off n1 try 1"
      ∷ "start 1 d1 off n2 try 1"
      ∷ "answer 0 ok level 1"
      ∷ "answer 1 ok level 1"
      ∷ "end asked 2 answered 2 alive 0"
      ∷ [];
}

-- an operation has the limit of the registration that it planned with
abbrev pub own_limit : Session
own_limit = record {
  entries =
      0 ▸ device 0 "d1" plain
      ∷ 0 ▸ ask 0 0 "c1" Kind.Off "n1" 600_000 0 Scope.Nothing
      ∷ 0 ▸ start 0 0 Phase.Act 1 0 0 Kind.Off 1
      ∷ 0 ▸ ask 1 1 "c2" Kind.Off "n2" 600_000 0 Scope.Nothing
      ∷ 0 ▸ device 1 "d1" (limit 2)
      ∷ 0 ▸ ask 2 2 "c3" Kind.Off "n3" 600_000 0 Scope.Nothing
      ∷ 0 ▸ start 1 2 Phase.Act 1 0 1 Kind.Off 1
      ∷ [];
  output =
      "start 0 d1 off n1 try 1"
      ∷ "start 1 d1 off n3 try 1"
      ∷ "end asked 3 answered 0 alive 2"
      ∷ [];
}

-- with a limit of two a third start waits
abbrev pub two_places : Session
two_places = record {
  entries =
      0 ▸ device 0 "d1" (limit 2)
      ∷ 0 ▸ ask 0 0 "c1" Kind.Off "n1" 600_000 0 Scope.Nothing
      ∷ 0 ▸ start 0 0 Phase.Act 1 0 0 Kind.Off 1
      ∷ 0 ▸ ask 1 1 "c2" Kind.Off "n2" 600_000 0 Scope.Nothing
      ∷ 0 ▸ start 1 1 Phase.Act 1 0 0 Kind.Off 1
      ∷ 0 ▸ ask 2 2 "c3" Kind.Off "n3" 600_000 0 Scope.Nothing
      ∷ 1 ▸ exit 1 0 false
      ∷ 1 ▸ reply 1 (Answer.Passed 1)
      ∷ 1 ▸ start 2 2 Phase.Act 1 0 0 Kind.Off 1
      ∷ [];
  output =
      "start 0 d1 off n1 try 1"
      ∷ "start 1 d1 off n2 try 1"
      ∷ "answer 1 ok level 1"
      ∷ "start 2 d1 off n3 try 1"
      ∷ "end asked 3 answered 1 alive 2"
      ∷ [];
}

-- a first try that was ready earlier goes before a second try
abbrev pub retry_waits : Session
retry_waits = record {
  entries =
      0 ▸ device 0 "d1" plain
      ∷ 0 ▸ ask 0 0 "c1" Kind.Off "n1" 600_000 0 Scope.Nothing
      ∷ 0 ▸ start 0 0 Phase.Act 1 0 0 Kind.Off 1
      ∷ 0 ▸ ask 1 1 "c2" Kind.Off "n2" 600_000 0 Scope.Nothing
      ∷ 1 ▸ exit 0 1 false
      ∷ 1 ▸ start 1 1 Phase.Act 1 0 0 Kind.Off 1
      ∷ [];
  output =
      "start 0 d1 off n1 try 1"
      ∷ "start 1 d1 off n2 try 1"
      ∷ "end asked 2 answered 0 alive 1"
      ∷ [];
}

-- a run past its limit holds its place until its exit
abbrev pub place_held : Session
place_held = record {
  entries =
      0 ▸ device 0 "a" (off_timeout 10_000)
      ∷ 0 ▸ device 1 "b" plain
      ∷ 0 ▸ level 1 (name "n1") ("a" ∷ [])
      ∷ 0 ▸ level 2 (name "n1") ("b" ∷ [])
      ∷ 0 ▸ level 1 (name "n2") ("a" ∷ [])
      ∷ 0 ▸ ask 0 0 "c1" Kind.Off "n1" 600_000 0 Scope.Name
      ∷ 0 ▸ start 0 0 Phase.Act 1 0 0 Kind.Off 1
      ∷ 10_000 ▸ ask 1 1 "c2" Kind.Off "n2" 600_000 0 Scope.Name
      ∷ 10_000 ▸ start 1 0 Phase.Act 2 0 1 Kind.Off 1
      ∷ 10_001 ▸ exit 0 0 false
      ∷ 10_001 ▸ start 2 1 Phase.Act 1 0 0 Kind.Off 1
      ∷ 10_002 ▸ exit 1 0 false
      ∷ 10_002 ▸ reply 0 (Answer.Passed 2)
      ∷ 10_003 ▸ exit 2 0 false
      ∷ 10_003 ▸ reply 1 (Answer.Passed 1)
      ∷ [];
  output =
      "start 0 a off n1 try 1"
      ∷ "start 1 b off n1 try 1"
      ∷ "start 2 a off n2 try 1"
      ∷ "answer 0 ok level 2"
      ∷ "answer 1 ok level 1"
      ∷ "end asked 2 answered 2 alive 0"
      ∷ [];
}
