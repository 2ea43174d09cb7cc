use Rattle.std.proofs.Common.{sym, subst}
use Rattle.fnc_outside.specs.Told.{Gains}
use Rattle.fnc_outside.specs.Writes.{AppendsPart}
use Rattle.fnc_outside.proofs.Telling.{gains-gains, gains-part}
use Rattle.fnc_journal_text.specs.Spelled.{limits_words, nodes_words, spaced}
use Rattle.fnc_journal_text.proofs.Listing.{spaced-append}
use Rattle.fnc_printing.proofs.Pieces.{on-err, on-err-then, on-ok-then, part-of_front}
use Rattle.fnc_journal_text.proofs.definition.print_device.Goals as goal

pub returns-in_err-print_nodes-clause-err : goal.returns-in_err-print_nodes-clause-err
returns-in_err-print_nodes-clause-err g c =
    let nodes = nodes_words c.args.device.now in
    let limits = limits_words c.args.device.now in
    on-err _ _
    (subst (AppendsPart (g.K.Sink.held c.args.sink.now) (g.K.Sink.held c.print_nodes.new.sink)) (sym (spaced-append nodes limits))
    (part-of_front _ _ (spaced nodes) (spaced limits) c.in_err-print_nodes.ensures.err))

pub returns-clause-ok : goal.returns-clause-ok
returns-clause-ok g c =
    let nodes = nodes_words c.args.device.now in
    let limits = limits_words c.args.device.now in
    on-ok-then _ _ _
    (λ gained.
    subst (Gains (g.K.Sink.held c.args.sink.now) (g.K.Sink.held c.print_limits.new.sink)) (sym (spaced-append nodes limits))
    (gains-gains _ _ _ (spaced nodes) (spaced limits) c.in_ok-print_nodes.ensures.ok gained))
    c.print_limits.ensures.ok

pub returns-clause-err : goal.returns-clause-err
returns-clause-err g c =
    let nodes = nodes_words c.args.device.now in
    let limits = limits_words c.args.device.now in
    on-err-then _ _ _
    (λ part.
    subst (AppendsPart (g.K.Sink.held c.args.sink.now) (g.K.Sink.held c.print_limits.new.sink)) (sym (spaced-append nodes limits))
    (gains-part _ _ _ (spaced nodes) (spaced limits) c.in_ok-print_nodes.ensures.ok part))
    c.print_limits.ensures.err
