use Rattle.std.proofs.Common.{arith}
use Rattle.fnc_journal.specs.History.{History}
use Rattle.fnc_journal.specs.Prefix.{prefix}
use Rattle.fnc_search.proofs.Prefixed.{prefix-most}
use Rattle.fnc_search.proofs.Setups.{setup-most}
use Rattle.fnc_search.proofs.past.Past.of.Goals as goal

pub invariant_of-result : goal.invariant_of-result
invariant_of-result c =
    let h : History = c.args.journal.now.history in
    let most = prefix-most h c.args.len in
    let short = setup-most (prefix c.args.len h) in
    (c.requires, omega arith, omega (arith, most, short))
