use Rattle.std.proofs.Common.{◌<◌, ◌∙◌, length, sym, ap, subst}
use Rattle.std.proofs.lemmas.Result.{err_from_is_err_and}
use Rattle.fnc_journal_reader.specs.Cuts.{parts}
use Rattle.fnc_journal_reader.specs.Reads.{Fails, each}
use Rattle.fnc_journal_reader.specs.Values.{delay_of}
use Rattle.fnc_journal_reader.proofs.Cutting.{not_empty}
use Rattle.fnc_journal_reader.proofs.Reading.{onto-fault, onto-next}
use Rattle.fnc_journal_reader.proofs.read_lists.read_delays.Goals as goal

pub returns-in_err-read_delay : goal.returns-in_err-read_delay
returns-in_err-read_delay c =
    let cut = not_empty 59 c.loop-rest.rest.now c.is_empty.result c.is_empty.ensures c.loop-rest-test.true in
    let p = err_from_is_err_and c.from_residual.result c.from_residual.ensures.1 in
    let fault = c.in_err-read_delay.field-0.0 in
    rw (p.1, p.2)
    (onto-fault delay_of 59 c.loop-rest.rest.now c.loop-rest.delays fault (each delay_of (parts 59 c.args.text.now)) cut
    (subst (λ t. Fails fault (delay_of t)) c.front.ensures c.in_err-read_delay.ensures) c.loop-rest.invariant)

pub loop-rest-smaller : goal.loop-rest-smaller
loop-rest-smaller c =
    let cut = not_empty 59 c.loop-rest.rest.now c.is_empty.result c.is_empty.ensures c.loop-rest-test.true in
    subst (λ t. length t < length c.loop-rest.rest.now) (sym c.after-rest.ensures) cut.shorter

pub loop-rest-preserved : goal.loop-rest-preserved
loop-rest-preserved c =
    let cut = not_empty 59 c.loop-rest.rest.now c.is_empty.result c.is_empty.ensures c.loop-rest-test.true in
    let item = ap delay_of (sym c.front.ensures) ∙ c.in_ok-read_delay.ensures in
    rw (c.in_ok-push.ensures.ok, c.after-rest.ensures)
    (sym (onto-next delay_of 59 c.loop-rest.rest.now c.loop-rest.delays c.in_ok-read_delay.field-0 cut item) ∙ c.loop-rest.invariant)
