use Rattle.std.proofs.Common.{sym, ap, ◌∙◌, length}
use Rattle.fnc_search.proofs.Prefixed.{prefix-length}
use Rattle.fnc_search.proofs.past.Past.len.Goals as goal

pub returns : goal.returns
returns c =
    sym (prefix-length c.self.inside.journal.now.history c.self.inside.len c.self.invariant.0) ∙ ap length c.self.view_is
