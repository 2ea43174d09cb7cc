use Rattle.std.proofs.Common.{◌<◌, sym, ap, ◌∙◌, arith, length, subst}
use Rattle.fnc_journal.specs.History.{History}
use Rattle.fnc_journal.specs.Links.{earlier}
use Rattle.fnc_journal.specs.Prefix.{prefix}
use Rattle.fnc_search.proofs.Prefixed.{prefix-length}
use Rattle.fnc_search.proofs.Chained.{earlier-prefix}
use Rattle.fnc_search.proofs.past.Past.earlier.Goals as goal

pub earlier-requires : goal.earlier-requires
earlier-requires c =
    let most = c.self.invariant.0 in
    let long = prefix-length c.self.inside.journal.now.history c.self.inside.len c.self.invariant.0 in
    let view = ap length c.self.view_is in
    omega (arith, most, long, view, c.requires)

pub returns : goal.returns
returns c =
    let h : History = c.self.inside.journal.now.history in
    let within : c.args.index < length (prefix c.self.inside.len h) =
    subst (λ (k : History). c.args.index < length k) (sym c.self.view_is) c.requires in
    c.earlier.ensures
    ∙ sym (earlier-prefix h c.self.inside.len c.args.index within)
    ∙ ap (λ (k : History). earlier c.args.index k) c.self.view_is
