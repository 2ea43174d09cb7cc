use Rattle.std.proofs.Common.{arith}
use Rattle.fnc_journal_text.specs.Spelled.{parameter_word}
use Rattle.fnc_journal_text.proofs.Listing.{spaced-next, parameter-piece}
use Rattle.fnc_printing.proofs.Pieces.{on-err, progress-failed, progress-more}
use Rattle.fnc_journal_text.proofs.lists.print_parameters.Goals as goal

pub returns-in_err-print_pieces-clause-err : goal.returns-in_err-print_pieces-clause-err
returns-in_err-print_pieces-clause-err g c =
    let next = spaced-next parameter_word c.args.parameters.now c.loop-parameter.parameter-index c.parameter-item.result _ c.loop-parameter-test.true c.parameter-item.is (parameter-piece _ _ _ c.as_str.ensures c.flag_word.ensures) in
    on-err _ _ (progress-failed _ _ _ _ _ _ _ c.loop-parameter.invariant.progress next c.in_err-print_pieces.ensures.err)

pub loop-parameter-preserved : goal.loop-parameter-preserved
loop-parameter-preserved g c =
    let next = spaced-next parameter_word c.args.parameters.now c.loop-parameter.parameter-index c.parameter-item.result _ c.loop-parameter-test.true c.parameter-item.is (parameter-piece _ _ _ c.as_str.ensures c.flag_word.ensures) in
    record {
      progress = progress-more _ _ _ _ _ _ _ c.loop-parameter.invariant.progress next c.in_ok-print_pieces.ensures.ok;
      count = omega (arith, c.loop-parameter.invariant.count, c.in_ok-print_pieces.ensures.count);
    }
