use Rattle.std.proofs.Common.{ap, ◌∙◌, subst, arith}
use Rattle.std.proofs.lemmas.List.Elements.{All-from_get_or}
use Rattle.fnc_outside.specs.Told.{Gains}
use Rattle.fnc_outside.specs.Writes.{AppendsPart}
use Rattle.percent_encoding.specs.Iter.{encoded_text}
use Rattle.percent_encoding.proofs.PercentLemmas.{IsByte}
use Rattle.fnc_printing.proofs.Escapes.{name_escaped}
use Rattle.fnc_printing.proofs.Pieces.{on-err, progress-end, progress-failed, progress-more}
use Rattle.fnc_printing.proofs.piece.print_name.Goals as goal

pub loop-part-preserved : goal.loop-part-preserved
loop-part-preserved g c = record {
  progress =
      progress-more _ _ _ _ _ _ _ c.loop-part.invariant.progress c.in-Some.ensures.steps
      (subst (Gains (g.K.Sink.held c.loop-part.sink) (g.K.Sink.held c.write.new.self)) c.as_bytes.ensures.value
      c.in_ok-write.ensures.ok);
  count = omega (arith, c.loop-part.invariant.count, c.in_ok-write.ensures.count.0);
}

pub returns-in_err-write-clause-err : goal.returns-in_err-write-clause-err
returns-in_err-write-clause-err g c =
    let small = All-from_get_or IsByte c.args.name.now 0 (λ i within. omega (arith, c.type_inv.name i)) in
    let whole =
    ap encoded_text c.into_iter-part-iterator.ensures.into_iter_gives
    ∙ c.percent_encode-part-items.ensures.text
    ∙ name_escaped c.args.name.now small in
    on-err _ _
    (subst (AppendsPart (g.K.Sink.held c.args.sink.now) (g.K.Sink.held c.write.new.self)) whole
    (progress-failed _ _ _ _ _ _ _ c.loop-part.invariant.progress c.in-Some.ensures.steps
    (subst (AppendsPart (g.K.Sink.held c.loop-part.sink) (g.K.Sink.held c.write.new.self)) c.as_bytes.ensures.value
    c.in_err-write.ensures.err)))

pub returns-clause-ok : goal.returns-clause-ok
returns-clause-ok g c =
    let small = All-from_get_or IsByte c.args.name.now 0 (λ i within. omega (arith, c.type_inv.name i)) in
    let whole =
    ap encoded_text c.into_iter-part-iterator.ensures.into_iter_gives
    ∙ c.percent_encode-part-items.ensures.text
    ∙ name_escaped c.args.name.now small in
    subst (Gains (g.K.Sink.held c.args.sink.now) (g.K.Sink.held c.loop-part.sink)) whole
    (progress-end _ _ _ _ c.loop-part.invariant.progress c.in-None.ensures.steps)
