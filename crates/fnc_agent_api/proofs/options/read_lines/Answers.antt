use Rattle.std.proofs.Common.{◌<◌, length, ap, arith, rules}
use Rattle.std.proofs.lemmas.Bool.Decides.{nat_tests}
use Rattle.std.proofs.lemmas.Result.{err_from_is_err_and}
use Rattle.fnc_agent_api.specs.Options.{pairs_of}
use Rattle.fnc_agent_api.specs.Cuts.{lines_of}
use Rattle.fnc_agent_api.proofs.PairsSoFar.{goes_on, ends, shorter}
use Rattle.fnc_agent_api.proofs.options.read_lines.Goals as goal

pub returns-in_err-add_line : goal.returns-in_err-add_line
returns-in_err-add_line c =
    let filled : 0 < length c.loop-rest.rest.now = grind (arith, nat_tests) in
    let p = err_from_is_err_and c.from_residual.result c.from_residual.ensures.1 in
    let bad = rw (c.trimmed_text.ensures, c.cut_text.ensures.front) at c.in_err-add_line.ensures.err in
    rw (p.1, p.2) (ends c.in_err-add_line.field-0.0 c.loop-rest.pairs c.loop-rest.number c.loop-rest.rest.now
    (pairs_of 1 (lines_of c.args.text.now)) filled bad c.loop-rest.invariant.0)

pub loop-rest-preserved : goal.loop-rest-preserved
loop-rest-preserved c =
    let filled : 0 < length c.loop-rest.rest.now = grind (arith, nat_tests) in
    let adds = rw (c.trimmed_text.ensures, c.cut_text.ensures.front) at c.in_ok-add_line.ensures.ok in
    let more = goes_on c.loop-rest.pairs c.add_line.new.pairs c.loop-rest.number c.loop-rest.rest.now
    (pairs_of 1 (lines_of c.args.text.now)) filled adds c.loop-rest.invariant.0 in (
      rw c.cut_text.ensures.back more,
      omega (
        arith,
        shorter c.loop-rest.rest.now filled,
        ap length c.cut_text.ensures.back,
        c.loop-rest.invariant.1,
      ),
      search rules,
    )
