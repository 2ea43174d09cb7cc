use Rattle.std.proofs.Common.{ap, is_some, ◌∙◌}
use Rattle.fnc_journal.specs.Found.{is_exit_of}
use Rattle.fnc_journal.proofs.Finds.{is_some-first_at}
use Rattle.fnc_search.proofs.found.has_exit.Goals as goal

pub returns : goal.returns
returns c =
    c.is_some.ensures ∙ ap is_some c.exit_at.ensures.at ∙ is_some-first_at (is_exit_of c.args.run) c.args.past.now
