-- Both reads are of the same plug.
use Rattle.std.proofs.Common.{ℕ, ◌<◌, ◌-◌, List, length, get_or, set, ◌≡◌, ap, ◌∙◌}
use Rattle.std.proofs.lemmas.List.{get_or_default}
use Rattle.fnc_switch.specs.declared.plug.Plug.{Plug}
use Rattle.fnc_switch.specs.Agents.{changed, one_less}
use Rattle.fnc_switch.proofs.Places.{changed_at}
use Rattle.fnc_switch.proofs.operations.fail.Goals as goal

less_at : (ps : List Plug) (i left : ℕ) (first second : Plug) → i < length ps
    → left ≡ (get_or ps i first).failures - 1
    → set ps i (record (get_or ps i second) { failures = left }) ≡ changed one_less i ps
less_at ps i left first second l one =
    let same : left ≡ (get_or ps i second).failures - 1 =
    one ∙ ap (λ (p : Plug). p.failures - 1) (get_or_default ps i first second l) in
    ap (λ n. set ps i (record (get_or ps i second) { failures = n })) same ∙ changed_at one_less ps i second l

pub returns : goal.returns
returns c =
    less_at c.args.plugs.now c.args.place c.saturating_sub.result c.index-plugs-place.result
    c.index-plugs-place-2.result c.requires c.saturating_sub.ensures
