-- The opening of a workload, and the line at its end.
use Rattle.std.proofs.Common.{refl}
use Rattle.fnc_printing.proofs.Pieces.{gains-none}
use Rattle.fnc_workload.proofs.Answered.{leaves}
use Rattle.fnc_workload.proofs.Wholly.{stands-first}
use Rattle.fnc_workload.proofs.session.run.Goals as goal

pub work-requires-clause-stands : goal.work-requires-clause-stands
work-requires-clause-stands g c =
    stands-first _ c.args.desk.now c.requires.no_history c.requires.at_first refl refl c.requires.few

pub returns-in-Some-clause-writes : goal.returns-in-Some-clause-writes
returns-in-Some-clause-writes g c = gains-none (g.K.Sink.held c.args.sink.now)

pub returns-in-Ok-clause-over : goal.returns-in-Ok-clause-over
returns-in-Ok-clause-over g c =
    leaves
    (record {
      answered = c.all_are_answered.ensures.answered;
      counted = c.all_are_answered.ensures.counted;
      told = c.all_are_answered.ensures.told;
    })
    c.made_lines_are_plain.ensures (record { number = c.args.number; count = c.args.count }) c.work.new.desk
    c.journal.ensures.sound c.in_default.ensures.rests c.in_default.ensures.whole

pub returns-in-Err-clause-over : goal.returns-in-Err-clause-over
returns-in-Err-clause-over g c =
    leaves
    (record {
      answered = c.all_are_answered.ensures.answered;
      counted = c.all_are_answered.ensures.counted;
      told = c.all_are_answered.ensures.told;
    })
    c.made_lines_are_plain.ensures (record { number = c.args.number; count = c.args.count }) c.work.new.desk
    c.journal.ensures.sound c.in_default.ensures.rests c.in_default.ensures.whole
