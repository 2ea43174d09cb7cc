use Rattle.fnc_retrace.proofs.Agreement.{lawful-read}
use Rattle.fnc_retrace.proofs.retrace.Retrace.verdict.Goals as goal

pub judge_from-requires-clause-begun : goal.judge_from-requires-clause-begun
judge_from-requires-clause-begun c =
    lawful-read c.self.inside.agreed c.self.inside.journal.history c.self.inside.follower.history c.self.invariant
