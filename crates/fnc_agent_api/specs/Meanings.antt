-- What the exit of an agent means, by the exit statuses of the Fence Agent API.
use Rattle.std.specs.Prelude.{◌==◌, if◌then◌else◌}
use Rattle.fnc_journal.specs.declared.entry.Kind.{Kind}
use Rattle.fnc_journal.specs.declared.entry.Exit.{Exit}
use Rattle.fnc_agent_api.specs.declared.meaning.Meaning.{Meaning}

-- the status of `status`: 0 is on, 2 is off
abbrev pub status_meaning : Exit → Meaning
status_meaning (Exit.Code n) = if n == 0 then Meaning.IsOn else (if n == 2 then Meaning.IsOff else Meaning.Failure)
status_meaning _ = Meaning.Failure

-- the status of every other action: 0 is success
abbrev pub action_meaning : Exit → Meaning
action_meaning (Exit.Code n) = if n == 0 then Meaning.Success else Meaning.Failure
action_meaning _ = Meaning.Failure

-- what an exit means for an action
abbrev pub meaning : Kind → Exit → Meaning
meaning Kind.Status exit = status_meaning exit
meaning _ exit = action_meaning exit
