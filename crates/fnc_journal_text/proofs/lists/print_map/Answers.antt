use lib.Utf8.{encode}
use Rattle.std.proofs.Common.{[], ◌∷◌, codes, refl, arith}
use Rattle.fnc_journal_text.specs.Spelled.{port_text}
use Rattle.fnc_journal_text.proofs.Listing.{listed-next, port-piece}
use Rattle.fnc_printing.proofs.Pieces.{on-err, progress-failed, progress-more}
use Rattle.fnc_journal_text.proofs.lists.print_map.Goals as goal

pub returns-in_err-print_pieces-clause-err : goal.returns-in_err-print_pieces-clause-err
returns-in_err-print_pieces-clause-err g c =
    let next = listed-next _ (codes ";") port_text c.args.pairs.now c.loop-pair.pair-index c.pair-item.result _ c.loop-pair-test.true c.pair-item.is (port-piece c.loop-pair.before.now _ _ _ c.as_str.ensures c.as_str-in-loop-pair.ensures) in
    on-err _ _ (progress-failed _ _ _ _ _ _ _ c.loop-pair.invariant.progress next c.in_err-print_pieces.ensures.err)

pub loop-pair-preserved : goal.loop-pair-preserved
unfolding encode
loop-pair-preserved g c =
    let next = listed-next _ (codes ";") port_text c.args.pairs.now c.loop-pair.pair-index c.pair-item.result _ c.loop-pair-test.true c.pair-item.is (port-piece c.loop-pair.before.now _ _ _ c.as_str.ensures c.as_str-in-loop-pair.ensures) in
    record {
      progress = progress-more _ _ _ _ _ _ _ c.loop-pair.invariant.progress next c.in_ok-print_pieces.ensures.ok;
      is_text = (59 ∷ [], (refl, refl));
      count = omega (arith, c.loop-pair.invariant.count, c.in_ok-print_pieces.ensures.count);
    }
