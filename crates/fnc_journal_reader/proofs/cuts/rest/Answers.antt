use Rattle.std.proofs.Common.{◌≡◌, ◌∙◌, ap, drop, arith}
use Rattle.fnc_journal_reader.specs.Cuts.{words}
use Rattle.fnc_journal_reader.proofs.Cutting.{words-passed}
use Rattle.fnc_journal_reader.proofs.cuts.rest.Goals as goal

pub loop-preserved : goal.loop-preserved
loop-preserved c =
    record {
      passed =
          words-passed c.loop.rest.now c.args.line.now c.after-rest.result.now c.loop.counter c.after-rest.ensures
          c.loop.invariant.passed;
      within = omega (arith, c.loop-test.true);
    }

pub returns : goal.returns
returns c =
    let over : c.loop.counter ≡ c.args.index = omega (arith, c.loop.invariant.within, c.loop-test.false) in
    c.loop.invariant.passed ∙ ap (λ n. drop n (words c.args.line.now)) over
