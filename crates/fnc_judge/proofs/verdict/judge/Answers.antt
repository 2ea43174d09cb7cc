use Rattle.std.proofs.Common.{sym, subst}
use Rattle.fnc_journal.specs.History.{History}
use Rattle.fnc_journal.specs.Lawful.{Lawful}
use Rattle.fnc_journal.proofs.Prefixes.{prefix-none}
use Rattle.fnc_judge.proofs.verdict.judge.Goals as goal

pub judge_from-requires-clause-begun : goal.judge_from-requires-clause-begun
judge_from-requires-clause-begun c =
    subst (λ (h : History). Lawful h) (sym (prefix-none c.args.journal.now.history)) tt
