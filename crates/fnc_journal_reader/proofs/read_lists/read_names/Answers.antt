use Rattle.std.proofs.Common.{◌<◌, ◌∙◌, length, sym, ap, subst}
use Rattle.std.proofs.lemmas.Result.{err_from_is_err_and}
use Rattle.fnc_journal_reader.specs.Cuts.{parts}
use Rattle.fnc_journal_reader.specs.Reads.{Fails, each}
use Rattle.fnc_journal_reader.specs.Values.{text_of}
use Rattle.fnc_journal_reader.proofs.Cutting.{not_empty}
use Rattle.fnc_journal_reader.proofs.Reading.{onto-fault, onto-next}
use Rattle.fnc_journal_reader.proofs.read_lists.read_names.Goals as goal

pub returns-in_err-read_text : goal.returns-in_err-read_text
returns-in_err-read_text c =
    let cut = not_empty 44 c.loop-rest.rest.now c.is_empty.result c.is_empty.ensures c.loop-rest-test.true in
    let p = err_from_is_err_and c.from_residual.result c.from_residual.ensures.1 in
    let fault = c.in_err-read_text.field-0.0 in
    rw (p.1, p.2)
    (onto-fault text_of 44 c.loop-rest.rest.now c.loop-rest.names fault (each text_of (parts 44 c.args.text.now)) cut
    (subst (λ t. Fails fault (text_of t)) c.front.ensures c.in_err-read_text.ensures) c.loop-rest.invariant)

pub loop-rest-smaller : goal.loop-rest-smaller
loop-rest-smaller c =
    let cut = not_empty 44 c.loop-rest.rest.now c.is_empty.result c.is_empty.ensures c.loop-rest-test.true in
    subst (λ t. length t < length c.loop-rest.rest.now) (sym c.after-rest.ensures) cut.shorter

pub loop-rest-preserved : goal.loop-rest-preserved
loop-rest-preserved c =
    let cut = not_empty 44 c.loop-rest.rest.now c.is_empty.result c.is_empty.ensures c.loop-rest-test.true in
    let item = ap text_of (sym c.front.ensures) ∙ c.in_ok-read_text.ensures in
    rw (c.in_ok-push.ensures.ok, c.after-rest.ensures)
    (sym (onto-next text_of 44 c.loop-rest.rest.now c.loop-rest.names c.in_ok-read_text.field-0 cut item) ∙ c.loop-rest.invariant)
