use Rattle.std.proofs.Common.{◌∙◌, arith}
use Rattle.fnc_journal.proofs.Prefixes.{prefix-all}
use Rattle.fnc_search.proofs.past.Past.whole.Goals as goal

pub returns : goal.returns
returns c = c.of.ensures ∙ prefix-all c.args.journal.now.history c.len.result (omega (arith, c.len.ensures))
