use Rattle.std.proofs.Common.{refl}
use Rattle.fnc_text.specs.Words.{words}
use Rattle.fnc_command.proofs.Propriety.{no_exit}
use Rattle.fnc_command.proofs.read.exit_after.Goals as goal

pub returns-in_default : goal.returns-in_default
returns-in_default c =
    let head = c.args.head in
    record { read = no_exit head.moment head.verb (words head.rest.now) c.in_default.not-Exit; size = refl }
