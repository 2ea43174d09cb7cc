use Rattle.std.proofs.Common.{sym, ap, ◌∙◌, Err, arith}
use Rattle.std.proofs.lemmas.Bool.{cond-true, cond-false}
use Rattle.fnc_device.specs.declared.fault.DefineFault.{DefineFault}
use Rattle.fnc_device.proofs.OptionLemmas.{distinct_after-drop}
use Rattle.fnc_device.proofs.option.check_repeats.Goals as goal

pub returns-then-has_pair : goal.returns-then-has_pair
returns-then-has_pair c =
    let o = c.index-options-place in
    let step = distinct_after-drop c.args.options.now c.loop-place.place o.result (omega arith) o.is in
    let given = rw c.as_str.ensures at c.if-has_pair.ensures in
    let name = c.in_ok-name.ensures ∙ c.as_str-then-has_pair.ensures in
    sym c.loop-place.invariant ∙ step ∙ cond-true _ _ _ (sym given)
    ∙ ap (λ n. Err (DefineFault.RepeatedOption n)) (sym name)

pub loop-place-preserved : goal.loop-place-preserved
loop-place-preserved c =
    let o = c.index-options-place in
    let step = distinct_after-drop c.args.options.now c.loop-place.place o.result (omega arith) o.is in
    let given = rw c.as_str.ensures at c.if-has_pair.ensures in
    sym (sym c.loop-place.invariant ∙ step ∙ cond-false _ _ _ (sym given))
