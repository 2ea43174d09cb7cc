use lib.Utf8.{encode}
use Rattle.std.proofs.Common.{[], ◌∷◌, codes, refl, arith}
use Rattle.fnc_journal.specs.Line.{escaped}
use Rattle.fnc_journal_text.proofs.Listing.{listed-next, name-piece}
use Rattle.fnc_printing.proofs.Pieces.{on-err, progress-failed, progress-more}
use Rattle.fnc_journal_text.proofs.lists.print_names.Goals as goal

pub returns-in_err-print_pieces-clause-err : goal.returns-in_err-print_pieces-clause-err
returns-in_err-print_pieces-clause-err g c =
    let next = listed-next _ (codes ",") escaped c.args.names.now c.loop-name.name-index c.name-item.result _ c.loop-name-test.true c.name-item.is (name-piece c.loop-name.before.now _ _ c.as_str.ensures) in
    on-err _ _ (progress-failed _ _ _ _ _ _ _ c.loop-name.invariant.progress next c.in_err-print_pieces.ensures.err)

pub loop-name-preserved : goal.loop-name-preserved
unfolding encode
loop-name-preserved g c =
    let next = listed-next _ (codes ",") escaped c.args.names.now c.loop-name.name-index c.name-item.result _ c.loop-name-test.true c.name-item.is (name-piece c.loop-name.before.now _ _ c.as_str.ensures) in
    record {
      progress = progress-more _ _ _ _ _ _ _ c.loop-name.invariant.progress next c.in_ok-print_pieces.ensures.ok;
      is_text = (44 ∷ [], (refl, refl));
      count = omega (arith, c.loop-name.invariant.count, c.in_ok-print_pieces.ensures.count);
    }
