-- One device for one node: its tries, two requests that are merged, and requests that it cannot serve.
use Rattle.std.specs.Prelude.{[], ◌∷◌, false}
use Rattle.fnc_journal.specs.declared.entry.Answer.{Answer}
use Rattle.fnc_journal.specs.declared.entry.Kind.{Kind}
use Rattle.fnc_journal.specs.declared.entry.Phase.{Phase}
use Rattle.fnc_journal.specs.declared.entry.Scope.{Scope}
use Rattle.fnc_worked.specs.Entries.{◌▸◌, agent, device, ask, start, exit, reply}
use Rattle.fnc_worked.specs.Devices.{plain, host, priority, switch, switch_actions}
use Rattle.fnc_worked.specs.Sessions.{Session}

-- the first try succeeds
abbrev pub first_try : Session
first_try = record {
  entries =
      0 ▸ device 0 "d1" plain
      ∷ 10 ▸ ask 0 0 "c1" Kind.Off "n1" 600_000 0 Scope.Nothing
      ∷ 10 ▸ start 0 0 Phase.Act 1 0 0 Kind.Off 1
      ∷ 12 ▸ exit 0 0 false
      ∷ 12 ▸ reply 0 (Answer.Passed 1)
      ∷ [];
  output =
      "start 0 d1 off n1 try 1"
      ∷ "answer 0 ok level 1"
      ∷ "end asked 1 answered 1 alive 0"
      ∷ [];
}

-- the second try succeeds
abbrev pub second_try : Session
second_try = record {
  entries =
      0 ▸ device 0 "d1" plain
      ∷ 10 ▸ ask 0 0 "c1" Kind.Off "n1" 600_000 0 Scope.Nothing
      ∷ 10 ▸ start 0 0 Phase.Act 1 0 0 Kind.Off 1
      ∷ 12 ▸ exit 0 1 false
      ∷ 12 ▸ start 1 0 Phase.Act 1 0 0 Kind.Off 2
      ∷ 13 ▸ exit 1 0 false
      ∷ 13 ▸ reply 0 (Answer.Passed 1)
      ∷ [];
  output =
      "start 0 d1 off n1 try 1"
      ∷ "start 1 d1 off n1 try 2"
      ∷ "answer 0 ok level 1"
      ∷ "end asked 1 answered 1 alive 0"
      ∷ [];
}

-- both tries fail
abbrev pub both_fail : Session
both_fail = record {
  entries =
      0 ▸ device 0 "d1" plain
      ∷ 10 ▸ ask 0 0 "c1" Kind.Off "n1" 600_000 0 Scope.Nothing
      ∷ 10 ▸ start 0 0 Phase.Act 1 0 0 Kind.Off 1
      ∷ 12 ▸ exit 0 1 false
      ∷ 12 ▸ start 1 0 Phase.Act 1 0 0 Kind.Off 2
      ∷ 13 ▸ exit 1 1 false
      ∷ 13 ▸ reply 0 Answer.Levels
      ∷ [];
  output =
      "start 0 d1 off n1 try 1"
      ∷ "start 1 d1 off n1 try 2"
      ∷ "answer 0 failed levels"
      ∷ "end asked 1 answered 1 alive 0"
      ∷ [];
}

-- a second request joins the operation of the first, and both get its answer
abbrev pub merged : Session
merged = record {
  entries =
      0 ▸ device 0 "d1" plain
      ∷ 0 ▸ ask 0 0 "c1" Kind.Off "n1" 600_000 0 Scope.Nothing
      ∷ 0 ▸ start 0 0 Phase.Act 1 0 0 Kind.Off 1
      ∷ 1 ▸ ask 1 0 "c2" Kind.Off "n1" 600_000 0 Scope.Nothing
      ∷ 2 ▸ exit 0 0 false
      ∷ 2 ▸ reply 0 (Answer.Passed 1)
      ∷ 2 ▸ reply 1 (Answer.Passed 1)
      ∷ [];
  output =
      "start 0 d1 off n1 try 1"
      ∷ "answer 0 ok level 1"
      ∷ "answer 1 ok level 1"
      ∷ "end asked 2 answered 2 alive 0"
      ∷ [];
}

-- the only device names another node: none is capable
abbrev pub none_capable : Session
none_capable = record {
  entries =
      0 ▸ device 0 "d1" (host "n2")
      ∷ 0 ▸ ask 0 0 "c1" Kind.Off "n1" 600_000 0 Scope.Nothing
      ∷ 0 ▸ reply 0 Answer.NoDevice
      ∷ [];
  output =
      "answer 0 failed none"
      ∷ "end asked 1 answered 1 alive 0"
      ∷ [];
}

-- a reboot becomes `off` where the agent has no `reboot`
abbrev pub without_reboot : Session
without_reboot = record {
  entries =
      0 ▸ agent "fence_x" switch_actions
      ∷ 0 ▸ device 0 "d1" switch
      ∷ 1 ▸ ask 0 0 "c1" Kind.Reboot "n1" 600_000 0 Scope.Nothing
      ∷ 1 ▸ start 0 0 Phase.Act 1 0 0 Kind.Off 1
      ∷ [];
  output =
      "start 0 d1 off n1 try 1"
      ∷ "end asked 1 answered 0 alive 1"
      ∷ [];
}

-- of two candidates that of the higher priority is tried first
abbrev pub by_priority : Session
by_priority = record {
  entries =
      0 ▸ device 0 "a" plain
      ∷ 0 ▸ device 1 "b" (priority 5)
      ∷ 0 ▸ ask 0 0 "c1" Kind.Off "n1" 600_000 0 Scope.Nothing
      ∷ 0 ▸ start 0 0 Phase.Act 1 0 1 Kind.Off 1
      ∷ [];
  output =
      "start 0 b off n1 try 1"
      ∷ "end asked 1 answered 0 alive 1"
      ∷ [];
}

-- without levels the next candidate is tried once the tries of the first have failed
abbrev pub next_candidate : Session
next_candidate = record {
  entries =
      0 ▸ device 0 "a" plain
      ∷ 0 ▸ device 1 "b" plain
      ∷ 0 ▸ ask 0 0 "c1" Kind.Off "n1" 600_000 0 Scope.Nothing
      ∷ 0 ▸ start 0 0 Phase.Act 1 0 0 Kind.Off 1
      ∷ 1 ▸ exit 0 1 false
      ∷ 1 ▸ start 1 0 Phase.Act 1 0 0 Kind.Off 2
      ∷ 2 ▸ exit 1 1 false
      ∷ 2 ▸ start 2 0 Phase.Act 2 0 1 Kind.Off 1
      ∷ 3 ▸ exit 2 0 false
      ∷ 3 ▸ reply 0 (Answer.Passed 2)
      ∷ [];
  output =
      "start 0 a off n1 try 1"
      ∷ "start 1 a off n1 try 2"
      ∷ "start 2 b off n1 try 1"
      ∷ "answer 0 ok level 2"
      ∷ "end asked 1 answered 1 alive 0"
      ∷ [];
}
