-- What a line says after the beginning that was read of it.
use Rattle.std.specs.Prelude.{Result}
use Rattle.fnc_journal.specs.declared.cause.Cause.{Cause}
use Rattle.fnc_text.specs.Words.{words}
use Rattle.fnc_command.specs.declared.command.Mode.{Mode}
use Rattle.fnc_command.specs.declared.command.Read.{Read}
use Rattle.fnc_command.specs.declared.head.Head.{Head}
use Rattle.fnc_command.specs.Lines.{said_after}

-- what a line of mode Timed says after this beginning
abbrev pub after_head : Head → Result Read Cause
after_head head =
    said_after Mode.Timed (record { moment = head.moment; verb = head.verb; words = words head.rest.now })
