use Rattle.std.proofs.Common.{◌<◌, sym, ap, ◌∙◌, arith, length, subst}
use Rattle.fnc_journal.specs.History.{History}
use Rattle.fnc_journal.specs.Found.{entry_at}
use Rattle.fnc_journal.specs.Prefix.{prefix}
use Rattle.fnc_search.proofs.Prefixed.{prefix-length, entry_at-prefix}
use Rattle.fnc_search.proofs.past.Past.entry.Goals as goal

pub entry-requires : goal.entry-requires
entry-requires c =
    let most = c.self.invariant.0 in
    let long = prefix-length c.self.inside.journal.now.history c.self.inside.len c.self.invariant.0 in
    let view = ap length c.self.view_is in
    omega (arith, most, long, view, c.requires)

pub returns : goal.returns
returns c =
    let within : c.args.index < length (prefix c.self.inside.len c.self.inside.journal.now.history) =
    subst (λ (k : History). c.args.index < length k) (sym c.self.view_is) c.requires in
    ap (λ (k : History). entry_at c.args.index k) (sym c.self.view_is)
    ∙ entry_at-prefix c.self.inside.journal.now.history c.self.inside.len c.args.index within
    ∙ c.entry.ensures
