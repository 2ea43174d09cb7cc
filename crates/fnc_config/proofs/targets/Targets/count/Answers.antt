use Rattle.std.proofs.Common.{◌≡◌, ◌≤◌, ◌∙◌, ap, sym, arith, min, ◌+◌}
use Rattle.fnc_config.specs.Configured.{count_levels}
use Rattle.fnc_config.proofs.targets.Targets.count.Goals as goal
use Rattle.fnc_config.proofs.TargetSteps.{count-shown, lengths}

pub returns : goal.returns
returns c =
    let l = c.loop-levels in
    let all = c.into_iter-levels-iterator.result in
    let most : l.count ≤ 18446744073709551615 = l.invariant.0 in
    let kept : min (l.count + lengths l.levels-iterator) 18446744073709551615 ≡ min (lengths all) 18446744073709551615 =
    l.invariant.1 in
    let ended : lengths l.levels-iterator ≡ 0 = ap lengths c.in-None.ensures.steps.0 in
    let first : lengths all ≡ count_levels c.args.self.now =
    ap lengths (c.into_iter-levels-iterator.ensures.into_iter_gives ∙ c.values-levels-items.ensures.rest)
    ∙ sym (count-shown c.self.inside.targets.entries)
    ∙ ap count_levels c.self.view_is in
    omega (arith, most, kept, ended, first)
