use Rattle.std.proofs.Common.{◌<◌, ◌∙◌, length, sym, subst}
use Rattle.fnc_journal_reader.proofs.Cutting.{not_empty}
use Rattle.fnc_journal_reader.proofs.Reading.{has-found, has-passed}
use Rattle.fnc_journal_reader.proofs.values.has_word.Goals as goal

pub returns-then-eq : goal.returns-then-eq
returns-then-eq c =
    has-found c.loop-rest.rest.now c.args.word.now c.as_bytes.result.now c.front.result.now
    (not_empty 44 c.loop-rest.rest.now c.is_empty.result c.is_empty.ensures c.loop-rest-test.true)
    c.if-eq.ensures c.as_bytes.ensures.value c.front.ensures
    ∙ c.loop-rest.invariant

pub loop-rest-smaller : goal.loop-rest-smaller
loop-rest-smaller c =
    let cut = not_empty 44 c.loop-rest.rest.now c.is_empty.result c.is_empty.ensures c.loop-rest-test.true in
    subst (λ t. length t < length c.loop-rest.rest.now) (sym c.after-rest.ensures) cut.shorter

pub loop-rest-preserved : goal.loop-rest-preserved
loop-rest-preserved c =
    has-passed c.loop-rest.rest.now c.args.word.now c.as_bytes.result.now c.front.result.now c.after-rest.result.now
    (not_empty 44 c.loop-rest.rest.now c.is_empty.result c.is_empty.ensures c.loop-rest-test.true) c.if-eq.ensures
    c.as_bytes.ensures.value c.front.ensures c.after-rest.ensures
    ∙ c.loop-rest.invariant
