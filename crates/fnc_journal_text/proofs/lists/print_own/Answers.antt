use Rattle.std.proofs.Common.{arith}
use Rattle.fnc_journal_text.specs.Spelled.{own_word}
use Rattle.fnc_journal_text.proofs.Listing.{spaced-next, own-piece}
use Rattle.fnc_printing.proofs.Pieces.{on-err, progress-failed, progress-more}
use Rattle.fnc_journal_text.proofs.lists.print_own.Goals as goal

pub returns-in_err-print_pieces-clause-err : goal.returns-in_err-print_pieces-clause-err
returns-in_err-print_pieces-clause-err g c =
    let next = spaced-next own_word c.args.options.now c.loop-option.option-index c.option-item.result _ c.loop-option-test.true c.option-item.is (own-piece _ _ _ c.as_str.ensures c.as_str-in-loop-option.ensures) in
    on-err _ _ (progress-failed _ _ _ _ _ _ _ c.loop-option.invariant.progress next c.in_err-print_pieces.ensures.err)

pub loop-option-preserved : goal.loop-option-preserved
loop-option-preserved g c =
    let next = spaced-next own_word c.args.options.now c.loop-option.option-index c.option-item.result _ c.loop-option-test.true c.option-item.is (own-piece _ _ _ c.as_str.ensures c.as_str-in-loop-option.ensures) in
    record {
      progress = progress-more _ _ _ _ _ _ _ c.loop-option.invariant.progress next c.in_ok-print_pieces.ensures.ok;
      count = omega (arith, c.loop-option.invariant.count, c.in_ok-print_pieces.ensures.count);
    }
