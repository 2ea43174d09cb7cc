-- The delay before the first try of `off` and `reboot`: 5000 + (7003 mod 5000) is 7003.
use Rattle.std.specs.Prelude.{[], ◌∷◌, false}
use Rattle.fnc_journal.specs.declared.entry.Kind.{Kind}
use Rattle.fnc_journal.specs.declared.entry.Phase.{Phase}
use Rattle.fnc_journal.specs.declared.entry.Scope.{Scope}
use Rattle.fnc_worked.specs.Entries.{◌▸◌, device, ask, start, exit, pass}
use Rattle.fnc_worked.specs.Devices.{delay}
use Rattle.fnc_worked.specs.Sessions.{Session}

-- the delay is over
abbrev pub delay_over : Session
delay_over = record {
  entries =
      0 ▸ device 0 "d1" (delay 5_000 10_000)
      ∷ 0 ▸ ask 0 0 "c1" Kind.Off "n1" 600_000 7_003 Scope.Nothing
      ∷ 7_002 ▸ pass
      ∷ 7_003 ▸ pass
      ∷ 7_003 ▸ start 0 0 Phase.Act 1 0 0 Kind.Off 1
      ∷ [];
  output =
      "start 0 d1 off n1 try 1"
      ∷ "end asked 1 answered 0 alive 1"
      ∷ [];
}

-- it is not
abbrev pub delay_not_over : Session
delay_not_over = record {
  entries =
      0 ▸ device 0 "d1" (delay 5_000 10_000)
      ∷ 0 ▸ ask 0 0 "c1" Kind.Off "n1" 600_000 7_003 Scope.Nothing
      ∷ 7_002 ▸ pass
      ∷ [];
  output =
      "end asked 1 answered 0 alive 0"
      ∷ [];
}

-- a second try has no delay
abbrev pub retry_at_once : Session
retry_at_once = record {
  entries =
      0 ▸ device 0 "a" (delay 5_000 0)
      ∷ 0 ▸ ask 0 0 "c1" Kind.Off "n1" 600_000 0 Scope.Nothing
      ∷ 5_000 ▸ pass
      ∷ 5_000 ▸ start 0 0 Phase.Act 1 0 0 Kind.Off 1
      ∷ 5_001 ▸ exit 0 1 false
      ∷ 5_001 ▸ start 1 0 Phase.Act 1 0 0 Kind.Off 2
      ∷ [];
  output =
      "start 0 a off n1 try 1"
      ∷ "start 1 a off n1 try 2"
      ∷ "end asked 1 answered 0 alive 1"
      ∷ [];
}

-- `on` has none
abbrev pub on_at_once : Session
on_at_once = record {
  entries =
      0 ▸ device 0 "a" (delay 5_000 0)
      ∷ 0 ▸ ask 0 0 "c1" Kind.On "n1" 600_000 0 Scope.Nothing
      ∷ 0 ▸ start 0 0 Phase.Act 1 0 0 Kind.On 1
      ∷ [];
  output =
      "start 0 a on n1 try 1"
      ∷ "end asked 1 answered 0 alive 1"
      ∷ [];
}
