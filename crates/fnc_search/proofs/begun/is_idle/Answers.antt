use Rattle.std.proofs.Common.{◌∙◌, sym}
use Rattle.fnc_search.proofs.Chained.{acts-nowhere}
use Rattle.fnc_search.proofs.begun.is_idle.Goals as goal

pub returns-in-None : goal.returns-in-None
returns-in-None c = λ k. acts-nowhere c.args.req c.args.past.now c.requires (sym c.latest.ensures.at ∙ c.in-None.is)

pub returns-in-Some : goal.returns-in-Some
returns-in-Some c = λ k. cc
