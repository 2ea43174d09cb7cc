use Rattle.std.proofs.Common.{◌<◌, ◌∙◌, length, sym, ap, subst}
use Rattle.std.proofs.lemmas.Result.{err_from_is_err_and}
use Rattle.fnc_journal_reader.specs.Cuts.{parts}
use Rattle.fnc_journal_reader.specs.Reads.{Fails, each}
use Rattle.fnc_journal_reader.specs.Values.{own_of}
use Rattle.fnc_journal_reader.proofs.Cutting.{not_empty}
use Rattle.fnc_journal_reader.proofs.Reading.{onto-fault, onto-next}
use Rattle.fnc_journal_reader.proofs.read_lists.read_owns.Goals as goal

pub returns-in_err-read_own : goal.returns-in_err-read_own
returns-in_err-read_own c =
    let cut = not_empty 32 c.loop-rest.rest.now c.is_empty.result c.is_empty.ensures c.loop-rest-test.true in
    let p = err_from_is_err_and c.from_residual.result c.from_residual.ensures.1 in
    let fault = c.in_err-read_own.field-0.0 in
    rw (p.1, p.2)
    (onto-fault own_of 32 c.loop-rest.rest.now c.loop-rest.options fault (each own_of (parts 32 c.args.text.now)) cut
    (subst (λ t. Fails fault (own_of t)) c.front.ensures c.in_err-read_own.ensures) c.loop-rest.invariant)

pub loop-rest-smaller : goal.loop-rest-smaller
loop-rest-smaller c =
    let cut = not_empty 32 c.loop-rest.rest.now c.is_empty.result c.is_empty.ensures c.loop-rest-test.true in
    subst (λ t. length t < length c.loop-rest.rest.now) (sym c.after-rest.ensures) cut.shorter

pub loop-rest-preserved : goal.loop-rest-preserved
loop-rest-preserved c =
    let cut = not_empty 32 c.loop-rest.rest.now c.is_empty.result c.is_empty.ensures c.loop-rest-test.true in
    let item = ap own_of (sym c.front.ensures) ∙ c.in_ok-read_own.ensures in
    rw (c.in_ok-push.ensures.ok, c.after-rest.ensures)
    (sym (onto-next own_of 32 c.loop-rest.rest.now c.loop-rest.options c.in_ok-read_own.field-0 cut item) ∙ c.loop-rest.invariant)
