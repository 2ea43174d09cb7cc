use Rattle.std.proofs.Common.{◌∙◌, ap, sym, subst}
use Rattle.std.specs.Prelude.{bytes_eq}
use Rattle.std.specs.Map.{remove_entry}
use Rattle.fnc_config.specs.Patterns.{AreByText}
use Rattle.fnc_config.proofs.compiled.Compiled.remove.Goals as goal
use Rattle.fnc_config.proofs.CompiledTexts.{by-text-removed}
use Rattle.fnc_config.proofs.Shown.{gone, shown}

pub invariant_of-self : goal.invariant_of-self
invariant_of-self c =
    subst AreByText
    (sym (ap shown c.shift_remove.ensures.entries ∙ gone c.args.text.now c.self.inside.patterns.entries))
    (by-text-removed c.args.text.now (shown c.self.inside.patterns.entries) c.self.invariant)

pub returns : goal.returns
returns c =
    ap shown c.shift_remove.ensures.entries
    ∙ gone c.args.text.now _
    ∙ ap (remove_entry (bytes_eq c.args.text.now)) c.self.view_is
