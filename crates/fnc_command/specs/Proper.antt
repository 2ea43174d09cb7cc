-- What holds of every line that is read, whatever it says.
use Rattle.std.specs.Prelude.{ℕ, ◌≤◌, ◌<◌, ◌^◌, List, length, nat_lt, IsTrue, IfSome, Option, Some, None}
use Rattle.std.specs.List.{list_all}
use Rattle.fnc_journal.specs.declared.limits.TheConstants.{DAY, GREATEST_MOMENT}
use Rattle.fnc_journal.specs.declared.entry.Kind.{Kind}
use Rattle.fnc_journal.specs.declared.entry.LevelTarget.{LevelTarget}
use Rattle.fnc_journal.specs.Names.{is_name}
use Rattle.fnc_command.specs.declared.command.Command.{Command}
use Rattle.fnc_command.specs.declared.command.ExitRead.{ExitRead}
use Rattle.fnc_command.specs.declared.command.Mode.{Mode}
use Rattle.fnc_command.specs.declared.command.Read.{Read}
use Rattle.fnc_command.specs.Fields.{is_agent_name}
use Rattle.fnc_command.specs.Levels.{is_pattern}

-- only in mode Timed
abbrev pub IsTimed : Mode → Type 0
IsTimed Mode.Timed = Unit {0}
IsTimed Mode.Live = ⊥

-- a moment is there exactly in mode Timed, and is at most the greatest
abbrev pub IsProperMoment : Mode → Option ℕ → Type 0
IsProperMoment Mode.Timed (Some moment) = moment ≤ GREATEST_MOMENT
IsProperMoment Mode.Timed None = ⊥
IsProperMoment Mode.Live (Some moment) = ⊥
IsProperMoment Mode.Live None = Unit {0}

-- a target is a name, or a pattern of 1 to 255 bytes
abbrev pub IsProperTarget : LevelTarget → Type 0
IsProperTarget (LevelTarget.Name name) = IsTrue (is_name name)
IsProperTarget (LevelTarget.Pattern pattern) = IsTrue (is_pattern pattern)

-- one or more names
abbrev pub AreNamed : List (List ℕ) → Type 0
AreNamed names = IsTrue (list_all is_name names) × IsTrue (nat_lt 0 (length names))

-- an action that can be asked for
abbrev pub IsAskable : Kind → Type 0
IsAskable Kind.On = Unit {0}
IsAskable Kind.Off = Unit {0}
IsAskable Kind.Reboot = Unit {0}
IsAskable _ = ⊥

-- a coin is said in mode Timed alone
abbrev pub IsProperCoin : Mode → Option ℕ → Type 0
IsProperCoin mode None = Unit {0}
IsProperCoin mode (Some coin) = IsTimed mode

-- names are names, a total is a millisecond to a day, and `exit` and `pass` are said in mode Timed alone
abbrev pub IsProperCommand : Mode → Command → Type 0
IsProperCommand mode (Command.Device name agent options) = IsTrue (is_name name)
    × IfSome agent (λ a. IsTrue (is_agent_name a))
IsProperCommand mode (Command.Remove name) = IsTrue (is_name name)
IsProperCommand mode (Command.Level target index devices) = IsProperTarget target × AreNamed devices
IsProperCommand mode (Command.Unlevel target index) = IsProperTarget target
IsProperCommand mode (Command.Agent name json) = IsTrue (is_agent_name name)
IsProperCommand mode (Command.Ask client kind target total coin) =
    IsTrue (is_name client) × IsAskable kind × IsTrue (is_name target) × (1 ≤ total) × (total ≤ DAY)
    × IsProperCoin mode coin
IsProperCommand mode (Command.Exit run exit output) = IsTimed mode × (run.0 < 2 ^ 32)
IsProperCommand mode Command.Pass = IsTimed mode
IsProperCommand mode (Command.Confirm client target) = IsTrue (is_name client) × IsTrue (is_name target)

-- what holds of a line that is read
abbrev pub IsProper : Mode → Read → Type 0
IsProper mode read = IsProperMoment mode read.moment × IsProperCommand mode read.command

-- what holds of an exit that is read
abbrev pub IsProperExit : ExitRead → Type 0
IsProperExit exit = (exit.moment ≤ GREATEST_MOMENT) × (exit.run.0 < 2 ^ 32)
