use Rattle.std.proofs.Common.{◌≤◌, sym, ap, ◌∙◌, arith, length}
use Rattle.fnc_journal.specs.History.{History}
use Rattle.fnc_journal.specs.Prefix.{prefix}
use Rattle.fnc_search.specs.Setup.{setup_end}
use Rattle.fnc_search.proofs.Setups.{setup-most, setup-prefix}
use Rattle.fnc_search.proofs.Prefixed.{prefix-length, prefix-prefix}
use Rattle.fnc_search.proofs.past.Past.before.Goals as goal

pub invariant_of-result : goal.invariant_of-result
invariant_of-result c =
    let h : History = c.self.inside.journal.now.history in
    let n = c.self.inside.len in
    let i = c.args.index in
    let most = c.self.invariant.0 in
    let long = prefix-length h n c.self.invariant.0 in
    let view = ap length c.self.view_is in
    let less : i ≤ length h = omega (arith, most, long, view, c.requires) in
    let least = c.min.ensures in
    let fewer : setup_end (prefix i (prefix n h)) ≤ setup_end (prefix n h) = setup-prefix (prefix n h) i in
    let same = ap (λ (k : History). setup_end k) (prefix-prefix h n i (omega (arith, long, view, c.requires))) in
    let short = setup-most (prefix i h) in
    let size = prefix-length h i less in
    (less, omega (arith, least), omega (arith, least, fewer, same, short, size, c.self.invariant.2))

pub returns : goal.returns
returns c =
    let long = prefix-length c.self.inside.journal.now.history c.self.inside.len c.self.invariant.0 in
    let view = ap length c.self.view_is in
    sym (prefix-prefix c.self.inside.journal.now.history c.self.inside.len c.args.index
    (omega (arith, long, view, c.requires)))
    ∙ ap (λ (k : History). prefix c.args.index k) c.self.view_is
