-- A reboot on a level of two devices: off on both, then on on both.
use Rattle.std.specs.Prelude.{[], ◌∷◌, false}
use Rattle.fnc_journal.specs.declared.entry.Answer.{Answer}
use Rattle.fnc_journal.specs.declared.entry.Kind.{Kind}
use Rattle.fnc_journal.specs.declared.entry.Phase.{Phase}
use Rattle.fnc_journal.specs.declared.entry.Scope.{Scope}
use Rattle.fnc_worked.specs.Entries.{◌▸◌, device, name, level, ask, start, exit, pass, reply}
use Rattle.fnc_worked.specs.Devices.{plain, host, mapped}
use Rattle.fnc_worked.specs.Sessions.{Session}

-- all four succeed
abbrev pub split_reboot : Session
split_reboot = record {
  entries =
      0 ▸ device 0 "a" plain
      ∷ 0 ▸ device 1 "b" plain
      ∷ 0 ▸ level 1 (name "n1") ("a" ∷ "b" ∷ [])
      ∷ 1 ▸ ask 0 0 "c1" Kind.Reboot "n1" 600_000 0 Scope.Name
      ∷ 1 ▸ start 0 0 Phase.Off 1 0 0 Kind.Off 1
      ∷ 2 ▸ exit 0 0 false
      ∷ 2 ▸ start 1 0 Phase.Off 1 1 1 Kind.Off 1
      ∷ 3 ▸ exit 1 0 false
      ∷ 3 ▸ start 2 0 Phase.On 1 0 0 Kind.On 1
      ∷ 4 ▸ exit 2 0 false
      ∷ 4 ▸ start 3 0 Phase.On 1 1 1 Kind.On 1
      ∷ 5 ▸ exit 3 0 false
      ∷ 5 ▸ reply 0 (Answer.Passed 1)
      ∷ [];
  output =
      "start 0 a off n1 try 1"
      ∷ "start 1 b off n1 try 1"
      ∷ "start 2 a on n1 try 1"
      ∷ "start 3 b on n1 try 1"
      ∷ "answer 0 ok level 1"
      ∷ "end asked 1 answered 1 alive 0"
      ∷ [];
}

-- what fails in the on phase changes nothing of the answer
abbrev pub on_fails : Session
on_fails = record {
  entries =
      0 ▸ device 0 "a" plain
      ∷ 0 ▸ device 1 "b" plain
      ∷ 0 ▸ level 1 (name "n1") ("a" ∷ "b" ∷ [])
      ∷ 1 ▸ ask 0 0 "c1" Kind.Reboot "n1" 600_000 0 Scope.Name
      ∷ 1 ▸ start 0 0 Phase.Off 1 0 0 Kind.Off 1
      ∷ 2 ▸ exit 0 0 false
      ∷ 2 ▸ start 1 0 Phase.Off 1 1 1 Kind.Off 1
      ∷ 3 ▸ exit 1 0 false
      ∷ 3 ▸ start 2 0 Phase.On 1 0 0 Kind.On 1
      ∷ 4 ▸ exit 2 1 false
      ∷ 4 ▸ start 3 0 Phase.On 1 0 0 Kind.On 2
      ∷ 5 ▸ exit 3 1 false
      ∷ 5 ▸ start 4 0 Phase.On 1 1 1 Kind.On 1
      ∷ 6 ▸ exit 4 0 false
      ∷ 6 ▸ reply 0 (Answer.Passed 1)
      ∷ [];
  output =
      "start 0 a off n1 try 1"
      ∷ "start 1 b off n1 try 1"
      ∷ "start 2 a on n1 try 1"
      ∷ "start 3 a on n1 try 2"
      ∷ "start 4 b on n1 try 1"
      ∷ "answer 0 ok level 1"
      ∷ "end asked 1 answered 1 alive 0"
      ∷ [];
}

-- the total ends in the on phase: the node was off
abbrev pub total_in_on_phase : Session
total_in_on_phase = record {
  entries =
      0 ▸ device 0 "a" plain
      ∷ 0 ▸ device 1 "b" plain
      ∷ 0 ▸ level 1 (name "n1") ("a" ∷ "b" ∷ [])
      ∷ 0 ▸ ask 0 0 "c1" Kind.Reboot "n1" 5_000 0 Scope.Name
      ∷ 0 ▸ start 0 0 Phase.Off 1 0 0 Kind.Off 1
      ∷ 1 ▸ exit 0 0 false
      ∷ 1 ▸ start 1 0 Phase.Off 1 1 1 Kind.Off 1
      ∷ 2 ▸ exit 1 0 false
      ∷ 2 ▸ start 2 0 Phase.On 1 0 0 Kind.On 1
      ∷ 5_000 ▸ reply 0 (Answer.Passed 1)
      ∷ 5_000 ▸ pass
      ∷ [];
  output =
      "start 0 a off n1 try 1"
      ∷ "start 1 b off n1 try 1"
      ∷ "start 2 a on n1 try 1"
      ∷ "answer 0 ok level 1"
      ∷ "end asked 1 answered 1 alive 1"
      ∷ [];
}

-- the total ends in the off phase
abbrev pub total_in_off_phase : Session
total_in_off_phase = record {
  entries =
      0 ▸ device 0 "a" plain
      ∷ 0 ▸ device 1 "b" plain
      ∷ 0 ▸ level 1 (name "n1") ("a" ∷ "b" ∷ [])
      ∷ 0 ▸ ask 0 0 "c1" Kind.Reboot "n1" 5_000 0 Scope.Name
      ∷ 0 ▸ start 0 0 Phase.Off 1 0 0 Kind.Off 1
      ∷ 1 ▸ exit 0 0 false
      ∷ 1 ▸ start 1 0 Phase.Off 1 1 1 Kind.Off 1
      ∷ 5_000 ▸ reply 0 Answer.Time
      ∷ 5_000 ▸ pass
      ∷ [];
  output =
      "start 0 a off n1 try 1"
      ∷ "start 1 b off n1 try 1"
      ∷ "answer 0 failed time"
      ∷ "end asked 1 answered 1 alive 1"
      ∷ [];
}

-- a second reboot that is asked in the on phase begins an operation of its own
abbrev pub asked_in_on_phase : Session
asked_in_on_phase = record {
  entries =
      0 ▸ device 0 "a" plain
      ∷ 0 ▸ device 1 "b" plain
      ∷ 0 ▸ level 1 (name "n1") ("a" ∷ "b" ∷ [])
      ∷ 1 ▸ ask 0 0 "c1" Kind.Reboot "n1" 600_000 0 Scope.Name
      ∷ 1 ▸ start 0 0 Phase.Off 1 0 0 Kind.Off 1
      ∷ 2 ▸ exit 0 0 false
      ∷ 2 ▸ start 1 0 Phase.Off 1 1 1 Kind.Off 1
      ∷ 3 ▸ exit 1 0 false
      ∷ 3 ▸ start 2 0 Phase.On 1 0 0 Kind.On 1
      ∷ 4 ▸ ask 1 1 "c2" Kind.Reboot "n1" 600_000 0 Scope.Name
      ∷ 5 ▸ exit 2 0 false
      ∷ 5 ▸ start 3 1 Phase.Off 1 0 0 Kind.Off 1
      ∷ 5 ▸ start 4 0 Phase.On 1 1 1 Kind.On 1
      ∷ 6 ▸ exit 4 0 false
      ∷ 6 ▸ reply 0 (Answer.Passed 1)
      ∷ 7 ▸ exit 3 0 false
      ∷ 7 ▸ start 5 1 Phase.Off 1 1 1 Kind.Off 1
      ∷ 8 ▸ exit 5 0 false
      ∷ 8 ▸ start 6 1 Phase.On 1 0 0 Kind.On 1
      ∷ 9 ▸ exit 6 0 false
      ∷ 9 ▸ start 7 1 Phase.On 1 1 1 Kind.On 1
      ∷ 10 ▸ exit 7 0 false
      ∷ 10 ▸ reply 1 (Answer.Passed 1)
      ∷ [];
  output =
      "start 0 a off n1 try 1"
      ∷ "start 1 b off n1 try 1"
      ∷ "start 2 a on n1 try 1"
      ∷ "start 3 a off n1 try 1"
      ∷ "start 4 b on n1 try 1"
      ∷ "answer 0 ok level 1"
      ∷ "start 5 b off n1 try 1"
      ∷ "start 6 a on n1 try 1"
      ∷ "start 7 b on n1 try 1"
      ∷ "answer 1 ok level 1"
      ∷ "end asked 2 answered 2 alive 0"
      ∷ [];
}

-- a level of one device fails, and the split reboot of the next one succeeds
abbrev pub ordinary_use : Session
ordinary_use = record {
  entries =
      0 ▸ device 0 "pdu1" (mapped "node1" "node2")
      ∷ 0 ▸ device 1 "pdu2" (mapped "node1" "node2")
      ∷ 0 ▸ device 2 "ipmi2" (host "node2")
      ∷ 0 ▸ level 1 (name "node2") ("ipmi2" ∷ [])
      ∷ 0 ▸ level 2 (name "node2") ("pdu1" ∷ "pdu2" ∷ [])
      ∷ 100 ▸ ask 0 0 "controld" Kind.Reboot "node2" 600_000 0 Scope.Name
      ∷ 100 ▸ start 0 0 Phase.Act 1 0 2 Kind.Reboot 1
      ∷ 20_000 ▸ exit 0 1 false
      ∷ 20_000 ▸ start 1 0 Phase.Act 1 0 2 Kind.Reboot 2
      ∷ 20_100 ▸ exit 1 1 false
      ∷ 20_100 ▸ start 2 0 Phase.Off 2 0 0 Kind.Off 1
      ∷ 21_000 ▸ exit 2 0 false
      ∷ 21_000 ▸ start 3 0 Phase.Off 2 1 1 Kind.Off 1
      ∷ 22_000 ▸ exit 3 0 false
      ∷ 22_000 ▸ start 4 0 Phase.On 2 0 0 Kind.On 1
      ∷ 23_000 ▸ exit 4 0 false
      ∷ 23_000 ▸ start 5 0 Phase.On 2 1 1 Kind.On 1
      ∷ 24_000 ▸ exit 5 0 false
      ∷ 24_000 ▸ reply 0 (Answer.Passed 2)
      ∷ [];
  output =
      "start 0 ipmi2 reboot node2 try 1"
      ∷ "start 1 ipmi2 reboot node2 try 2"
      ∷ "start 2 pdu1 off node2 try 1"
      ∷ "start 3 pdu2 off node2 try 1"
      ∷ "start 4 pdu1 on node2 try 1"
      ∷ "start 5 pdu2 on node2 try 1"
      ∷ "answer 0 ok level 2"
      ∷ "end asked 1 answered 1 alive 0"
      ∷ [];
}
