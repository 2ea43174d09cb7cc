-- Levels of a node: they are tried in order, each on its own, as they stood when the operation began.
use Rattle.std.specs.Prelude.{[], ◌∷◌, false}
use Rattle.fnc_journal.specs.declared.cause.Cause.{Cause}
use Rattle.fnc_journal.specs.declared.entry.Answer.{Answer}
use Rattle.fnc_journal.specs.declared.entry.Kind.{Kind}
use Rattle.fnc_journal.specs.declared.entry.Phase.{Phase}
use Rattle.fnc_journal.specs.declared.entry.Scope.{Scope}
use Rattle.fnc_worked.specs.Entries.{◌▸◌, agent, device, gone, name, pattern, level, unlevel, ask, start, exit}
use Rattle.fnc_worked.specs.Entries.{refused, reply}
use Rattle.fnc_worked.specs.Devices.{plain, off_only, off_actions}
use Rattle.fnc_worked.specs.Sessions.{Session}

-- what device a confirmed in level 1 counts nothing in level 2
abbrev pub no_reuse : Session
no_reuse = record {
  entries =
      0 ▸ device 0 "a" plain
      ∷ 0 ▸ device 1 "b" plain
      ∷ 0 ▸ level 1 (name "n1") ("a" ∷ "b" ∷ [])
      ∷ 0 ▸ level 2 (name "n1") ("a" ∷ [])
      ∷ 1 ▸ ask 0 0 "c1" Kind.Off "n1" 600_000 0 Scope.Name
      ∷ 1 ▸ start 0 0 Phase.Act 1 0 0 Kind.Off 1
      ∷ 2 ▸ exit 0 0 false
      ∷ 2 ▸ start 1 0 Phase.Act 1 1 1 Kind.Off 1
      ∷ 3 ▸ exit 1 1 false
      ∷ 3 ▸ start 2 0 Phase.Act 1 1 1 Kind.Off 2
      ∷ 4 ▸ exit 2 1 false
      ∷ 4 ▸ start 3 0 Phase.Act 2 0 0 Kind.Off 1
      ∷ 5 ▸ exit 3 0 false
      ∷ 5 ▸ reply 0 (Answer.Passed 2)
      ∷ [];
  output =
      "start 0 a off n1 try 1"
      ∷ "start 1 b off n1 try 1"
      ∷ "start 2 b off n1 try 2"
      ∷ "start 3 a off n1 try 1"
      ∷ "answer 0 ok level 2"
      ∷ "end asked 1 answered 1 alive 0"
      ∷ [];
}

-- level 1 names a device that is not registered, so it is lost
abbrev pub unfit : Session
unfit = record {
  entries =
      0 ▸ device 0 "b" plain
      ∷ 0 ▸ level 1 (name "n1") ("d9" ∷ [])
      ∷ 0 ▸ level 2 (name "n1") ("b" ∷ [])
      ∷ 0 ▸ ask 0 0 "c1" Kind.Off "n1" 600_000 0 Scope.Name
      ∷ 0 ▸ start 0 0 Phase.Act 2 0 0 Kind.Off 1
      ∷ 1 ▸ exit 0 0 false
      ∷ 1 ▸ reply 0 (Answer.Passed 2)
      ∷ [];
  output =
      "start 0 b off n1 try 1"
      ∷ "answer 0 ok level 2"
      ∷ "end asked 1 answered 1 alive 0"
      ∷ [];
}

-- such a level is the only one
abbrev pub unfit_alone : Session
unfit_alone = record {
  entries =
      0 ▸ device 0 "b" plain
      ∷ 0 ▸ level 1 (name "n1") ("d9" ∷ [])
      ∷ 0 ▸ ask 0 0 "c1" Kind.Off "n1" 600_000 0 Scope.Name
      ∷ 0 ▸ reply 0 Answer.Levels
      ∷ [];
  output =
      "answer 0 failed levels"
      ∷ "end asked 1 answered 1 alive 0"
      ∷ [];
}

-- an operation keeps the plan of its beginning: a device that was removed and a level that was replaced
abbrev pub snapshot : Session
snapshot = record {
  entries =
      0 ▸ device 0 "a" plain
      ∷ 0 ▸ device 1 "b" plain
      ∷ 0 ▸ level 1 (name "n1") ("a" ∷ [])
      ∷ 0 ▸ ask 0 0 "c1" Kind.Off "n1" 600_000 0 Scope.Name
      ∷ 0 ▸ start 0 0 Phase.Act 1 0 0 Kind.Off 1
      ∷ 1 ▸ gone 0
      ∷ 2 ▸ level 1 (name "n1") ("b" ∷ [])
      ∷ 3 ▸ exit 0 1 false
      ∷ 3 ▸ start 1 0 Phase.Act 1 0 0 Kind.Off 2
      ∷ 4 ▸ exit 1 0 false
      ∷ 4 ▸ reply 0 (Answer.Passed 1)
      ∷ 5 ▸ ask 1 1 "c2" Kind.Off "n1" 600_000 0 Scope.Name
      ∷ 5 ▸ start 2 1 Phase.Act 1 0 1 Kind.Off 1
      ∷ 6 ▸ exit 2 0 false
      ∷ 6 ▸ reply 1 (Answer.Passed 1)
      ∷ [];
  output =
      "start 0 a off n1 try 1"
      ∷ "start 1 a off n1 try 2"
      ∷ "answer 0 ok level 1"
      ∷ "start 2 b off n1 try 1"
      ∷ "answer 1 ok level 1"
      ∷ "end asked 2 answered 2 alive 0"
      ∷ [];
}

-- the levels of a pattern, and those of a name, which win
abbrev pub patterns : Session
patterns = record {
  entries =
      0 ▸ device 0 "a" plain
      ∷ 0 ▸ device 1 "b" plain
      ∷ 0 ▸ level 1 (pattern "^n[0-9]$") ("a" ∷ [])
      ∷ 0 ▸ level 1 (name "n2") ("b" ∷ [])
      ∷ 0 ▸ refused 5 Cause.BadPattern
      ∷ 0 ▸ ask 0 0 "c1" Kind.Off "n1" 600_000 0 (Scope.Pattern 2)
      ∷ 0 ▸ start 0 0 Phase.Act 1 0 0 Kind.Off 1
      ∷ 0 ▸ ask 1 1 "c2" Kind.Off "n2" 600_000 0 Scope.Name
      ∷ 0 ▸ start 1 1 Phase.Act 1 0 1 Kind.Off 1
      ∷ [];
  output =
      "refused 5 bad-pattern"
      ∷ "start 0 a off n1 try 1"
      ∷ "start 1 b off n2 try 1"
      ∷ "end asked 2 answered 0 alive 2"
      ∷ [];
}

-- a pattern is named by its oldest level that stands, and is young again once its last level is gone
abbrev pub pattern_order : Session
pattern_order = record {
  entries =
      0 ▸ device 0 "a" plain
      ∷ 0 ▸ device 1 "b" plain
      ∷ 0 ▸ device 2 "c" plain
      ∷ 0 ▸ level 1 (pattern "n") ("a" ∷ [])
      ∷ 0 ▸ level 1 (pattern "1") ("b" ∷ [])
      ∷ 0 ▸ level 1 (pattern "n") ("c" ∷ [])
      ∷ 0 ▸ ask 0 0 "c1" Kind.Off "n1" 600_000 0 (Scope.Pattern 5)
      ∷ 0 ▸ start 0 0 Phase.Act 1 0 2 Kind.Off 1
      ∷ 0 ▸ unlevel 1 (pattern "n")
      ∷ 0 ▸ level 1 (pattern "n") ("a" ∷ [])
      ∷ 0 ▸ ask 1 1 "c2" Kind.Off "n21" 600_000 0 (Scope.Pattern 4)
      ∷ 0 ▸ start 1 1 Phase.Act 1 0 1 Kind.Off 1
      ∷ [];
  output =
      "start 0 c off n1 try 1"
      ∷ "start 1 b off n21 try 1"
      ∷ "end asked 2 answered 0 alive 2"
      ∷ [];
}

-- for `on` a device without `on` is unfit, and a split reboot does without it
abbrev pub lacks_on : Session
lacks_on = record {
  entries =
      0 ▸ agent "f" off_actions
      ∷ 0 ▸ device 0 "a" off_only
      ∷ 0 ▸ device 1 "b" plain
      ∷ 0 ▸ level 1 (name "n1") ("a" ∷ "b" ∷ [])
      ∷ 0 ▸ ask 0 0 "c1" Kind.On "n1" 600_000 0 Scope.Name
      ∷ 0 ▸ reply 0 Answer.Levels
      ∷ 0 ▸ ask 1 1 "c2" Kind.Reboot "n1" 600_000 0 Scope.Name
      ∷ 0 ▸ start 0 1 Phase.Off 1 0 0 Kind.Off 1
      ∷ 1 ▸ exit 0 0 false
      ∷ 1 ▸ start 1 1 Phase.Off 1 1 1 Kind.Off 1
      ∷ 1 ▸ exit 1 0 false
      ∷ 1 ▸ start 2 1 Phase.On 1 1 1 Kind.On 1
      ∷ 2 ▸ exit 2 0 false
      ∷ 2 ▸ reply 1 (Answer.Passed 1)
      ∷ 3 ▸ ask 2 2 "c3" Kind.On "n9" 600_000 0 Scope.Nothing
      ∷ 3 ▸ start 3 2 Phase.Act 1 0 1 Kind.On 1
      ∷ [];
  output =
      "answer 0 failed levels"
      ∷ "start 0 a off n1 try 1"
      ∷ "start 1 b off n1 try 1"
      ∷ "start 2 b on n1 try 1"
      ∷ "answer 1 ok level 1"
      ∷ "start 3 b on n9 try 1"
      ∷ "end asked 3 answered 2 alive 1"
      ∷ [];
}
