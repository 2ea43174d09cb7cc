use Rattle.std.proofs.Common.{ap, rules, map, string_bytes, Some}
use Rattle.std.specs.Prelude.{option_map, codes}
use Rattle.fnc_words.specs.declared.command.Command.{Command}
use Rattle.fnc_words.specs.Commands.{command_by, session_of}
use Rattle.fnc_words.proofs.Refusing.{passed-on, refused-map}
use Rattle.fnc_words.proofs.command.read_named.Goals as goal

pub returns-in_err-read_session-in-Replay-clause-reads : goal.returns-in_err-read_session-in-Replay-clause-reads
returns-in_err-read_session-in-Replay-clause-reads c =
    let words = map string_bytes c.args.words.now in
    let fault = c.in_err-read_session-in-Replay.field-0.0 in
    passed-on c.from_residual.result fault (command_by (Some c.args.name) words) (search rules)
    (rw c.in-Replay.is (refused-map Command.Replay (session_of (codes "replay") words) fault
    c.in_err-read_session-in-Replay.ensures.reads))

pub returns-in_ok-read_session-in-Replay-clause-reads : goal.returns-in_ok-read_session-in-Replay-clause-reads
returns-in_ok-read_session-in-Replay-clause-reads c =
    rw c.in-Replay.is (ap (option_map Command.Replay) c.in_ok-read_session-in-Replay.ensures.reads)
