-- What a line may say that leaves a journal without confirmations, and with plain devices alone.
use Rattle.std.specs.Prelude.{IfOk, Result}
use Rattle.fnc_journal.specs.declared.cause.Cause.{Cause}
use Rattle.fnc_journal.specs.declared.definition.Description.{Description}
use Rattle.fnc_device.specs.Definitions.{define}
use Rattle.fnc_command.specs.declared.command.Command.{Command}
use Rattle.fnc_command.specs.declared.command.Read.{Read}
use Rattle.fnc_answered.specs.Plain.{PlainDefinition}

-- a command that is no confirmation; whatever the description of its agent, a device that it defines is plain
abbrev pub PlainCommand : Command → Type 0
PlainCommand (Command.Device name agent options) =
    (description : Description) → IfOk (define options description) PlainDefinition
PlainCommand (Command.Confirm client target) = ⊥
PlainCommand _ = Unit {0}

-- what a line says, if it says something, is such a command
abbrev pub PlainRead : Result Read Cause → Type 0
PlainRead said = IfOk said (λ read. PlainCommand read.command)
