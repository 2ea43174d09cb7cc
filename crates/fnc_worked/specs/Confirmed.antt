-- An operator confirms that a node is down.
use Rattle.std.specs.Prelude.{[], ◌∷◌, false}
use Rattle.fnc_journal.specs.declared.entry.Answer.{Answer}
use Rattle.fnc_journal.specs.declared.entry.Kind.{Kind}
use Rattle.fnc_journal.specs.declared.entry.Phase.{Phase}
use Rattle.fnc_journal.specs.declared.entry.Scope.{Scope}
use Rattle.fnc_worked.specs.Entries.{◌▸◌, device, name, level, ask, start, exit, confirm, reply}
use Rattle.fnc_worked.specs.Devices.{plain}
use Rattle.fnc_worked.specs.Sessions.{Session}

-- that answers the request for `off`, and not the one for `on`
abbrev pub confirmed : Session
confirmed = record {
  entries =
      0 ▸ device 0 "d1" plain
      ∷ 0 ▸ ask 0 0 "c1" Kind.Off "n1" 600_000 0 Scope.Nothing
      ∷ 0 ▸ start 0 0 Phase.Act 1 0 0 Kind.Off 1
      ∷ 1 ▸ ask 1 1 "c2" Kind.On "n1" 600_000 0 Scope.Nothing
      ∷ 2 ▸ confirm "admin" "n1"
      ∷ 2 ▸ reply 0 Answer.Confirmed
      ∷ 3 ▸ exit 0 1 false
      ∷ 3 ▸ start 1 1 Phase.Act 1 0 0 Kind.On 1
      ∷ [];
  output =
      "start 0 d1 off n1 try 1"
      ∷ "answer 0 ok confirmed"
      ∷ "start 1 d1 on n1 try 1"
      ∷ "end asked 2 answered 1 alive 1"
      ∷ [];
}

-- it answers no request that begins later
abbrev pub confirmed_before : Session
confirmed_before = record {
  entries =
      0 ▸ confirm "admin" "n1"
      ∷ 0 ▸ device 0 "d1" plain
      ∷ 0 ▸ ask 0 0 "c1" Kind.Off "n1" 600_000 0 Scope.Nothing
      ∷ 0 ▸ start 0 0 Phase.Act 1 0 0 Kind.Off 1
      ∷ [];
  output =
      "start 0 d1 off n1 try 1"
      ∷ "end asked 1 answered 0 alive 1"
      ∷ [];
}

-- it answers a reboot in its on phase, and the request that joined it
abbrev pub confirmed_in_on_phase : Session
confirmed_in_on_phase = record {
  entries =
      0 ▸ device 0 "a" plain
      ∷ 0 ▸ device 1 "b" plain
      ∷ 0 ▸ level 1 (name "n1") ("a" ∷ "b" ∷ [])
      ∷ 1 ▸ ask 0 0 "c1" Kind.Reboot "n1" 600_000 0 Scope.Name
      ∷ 1 ▸ start 0 0 Phase.Off 1 0 0 Kind.Off 1
      ∷ 1 ▸ ask 1 0 "c2" Kind.Reboot "n1" 600_000 0 Scope.Name
      ∷ 2 ▸ exit 0 0 false
      ∷ 2 ▸ start 1 0 Phase.Off 1 1 1 Kind.Off 1
      ∷ 3 ▸ exit 1 0 false
      ∷ 3 ▸ start 2 0 Phase.On 1 0 0 Kind.On 1
      ∷ 4 ▸ confirm "admin" "n1"
      ∷ 4 ▸ reply 0 Answer.Confirmed
      ∷ 4 ▸ reply 1 Answer.Confirmed
      ∷ [];
  output =
      "start 0 a off n1 try 1"
      ∷ "start 1 b off n1 try 1"
      ∷ "start 2 a on n1 try 1"
      ∷ "answer 0 ok confirmed"
      ∷ "answer 1 ok confirmed"
      ∷ "end asked 2 answered 2 alive 1"
      ∷ [];
}
