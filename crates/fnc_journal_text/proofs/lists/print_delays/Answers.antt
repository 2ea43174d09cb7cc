use lib.Utf8.{encode}
use Rattle.std.proofs.Common.{[], ◌∷◌, codes, refl, arith}
use Rattle.fnc_journal_text.specs.Spelled.{delay_text}
use Rattle.fnc_journal_text.proofs.Listing.{listed-next, delay-piece}
use Rattle.fnc_printing.proofs.Pieces.{on-err, progress-failed, progress-more}
use Rattle.fnc_journal_text.proofs.lists.print_delays.Goals as goal

pub returns-in_err-print_pieces-clause-err : goal.returns-in_err-print_pieces-clause-err
returns-in_err-print_pieces-clause-err g c =
    let next = listed-next _ (codes ";") delay_text c.args.delays.now c.loop-delay.delay-index c.delay-item.result _ c.loop-delay-test.true c.delay-item.is (delay-piece c.loop-delay.before.now _ _ c.as_str.ensures) in
    on-err _ _ (progress-failed _ _ _ _ _ _ _ c.loop-delay.invariant.progress next c.in_err-print_pieces.ensures.err)

pub loop-delay-preserved : goal.loop-delay-preserved
unfolding encode
loop-delay-preserved g c =
    let next = listed-next _ (codes ";") delay_text c.args.delays.now c.loop-delay.delay-index c.delay-item.result _ c.loop-delay-test.true c.delay-item.is (delay-piece c.loop-delay.before.now _ _ c.as_str.ensures) in
    record {
      progress = progress-more _ _ _ _ _ _ _ c.loop-delay.invariant.progress next c.in_ok-print_pieces.ensures.ok;
      is_text = (59 ∷ [], (refl, refl));
      count = omega (arith, c.loop-delay.invariant.count, c.in_ok-print_pieces.ensures.count);
    }
