-- Lines that are refused: each leaves an entry with its number and cause.
use Rattle.std.specs.Prelude.{[], ◌∷◌, false}
use Rattle.fnc_journal.specs.declared.cause.Cause.{Cause}
use Rattle.fnc_journal.specs.declared.entry.Answer.{Answer}
use Rattle.fnc_journal.specs.declared.entry.Kind.{Kind}
use Rattle.fnc_journal.specs.declared.entry.Phase.{Phase}
use Rattle.fnc_journal.specs.declared.entry.Scope.{Scope}
use Rattle.fnc_worked.specs.Entries.{◌▸◌, device, ask, start, exit, pass, refused, reply}
use Rattle.fnc_worked.specs.Devices.{plain}
use Rattle.fnc_worked.specs.Sessions.{Session}

-- of a run that is over, of a run that never was, of a limit, a past moment, a verb, an action, a device,
-- and of an empty line
abbrev pub refusals : Session
refusals = record {
  entries =
      0 ▸ device 0 "d1" plain
      ∷ 10 ▸ ask 0 0 "c1" Kind.Off "n1" 600_000 0 Scope.Nothing
      ∷ 10 ▸ start 0 0 Phase.Act 1 0 0 Kind.Off 1
      ∷ 12 ▸ exit 0 0 false
      ∷ 12 ▸ reply 0 (Answer.Passed 1)
      ∷ 12 ▸ refused 4 Cause.UnknownRun
      ∷ 12 ▸ refused 5 Cause.UnknownRun
      ∷ 12 ▸ refused 6 Cause.BadLimit
      ∷ 12 ▸ refused 7 Cause.PastMoment
      ∷ 12 ▸ refused 8 Cause.UnknownVerb
      ∷ 12 ▸ refused 9 Cause.BadAction
      ∷ 12 ▸ refused 10 Cause.NotRegistered
      ∷ 12 ▸ refused 11 Cause.Empty
      ∷ [];
  output =
      "start 0 d1 off n1 try 1"
      ∷ "answer 0 ok level 1"
      ∷ "refused 4 unknown-run"
      ∷ "refused 5 unknown-run"
      ∷ "refused 6 bad-limit"
      ∷ "refused 7 past-moment"
      ∷ "refused 8 unknown-verb"
      ∷ "refused 9 bad-action"
      ∷ "refused 10 not-registered"
      ∷ "refused 11 empty"
      ∷ "end asked 1 answered 1 alive 0"
      ∷ [];
}

-- a name is printed escaped
abbrev pub escaped_name : Session
escaped_name = record {
  entries =
      0 ▸ device 0 "d1" plain
      ∷ 0 ▸ ask 0 0 "c1" Kind.Off "n/1" 5_000 0 Scope.Nothing
      ∷ 0 ▸ start 0 0 Phase.Act 1 0 0 Kind.Off 1
      ∷ 5_000 ▸ reply 0 Answer.Time
      ∷ 5_000 ▸ pass
      ∷ [];
  output =
      "start 0 d1 off n%2F1 try 1"
      ∷ "answer 0 failed time"
      ∷ "end asked 1 answered 1 alive 1"
      ∷ [];
}
