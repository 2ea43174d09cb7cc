use Rattle.std.proofs.Common.{◌∙◌, ap, ap₂, sym, subst}
use Rattle.std.specs.Prelude.{bytes_eq, string_bytes}
use Rattle.indexmap.specs.IndexMap.{insert_entry}
use Rattle.fnc_config.specs.Patterns.{AreByText}
use Rattle.fnc_config.proofs.compiled.Compiled.put.Goals as goal
use Rattle.fnc_config.proofs.CompiledTexts.{by-text-inserted}
use Rattle.fnc_config.proofs.Shown.{inserted, shown}

pub invariant_of-self-2 : goal.invariant_of-self-2
invariant_of-self-2 c =
    let key = c.in_ok-key.key in
    subst AreByText
    (sym (ap shown c.in_ok-insert.ensures.entries ∙ inserted c.self.inside.patterns.entries key c.args.pattern))
    (by-text-inserted (string_bytes key) c.args.pattern (shown c.self.inside.patterns.entries)
    (c.in_ok-key.ensures.ok ∙ c.as_str.ensures) c.self.invariant)

pub returns-clause-ok : goal.returns-clause-ok
returns-clause-ok c =
    ap shown c.in_ok-insert.ensures.entries
    ∙ inserted c.self.inside.patterns.entries c.in_ok-key.key c.args.pattern
    ∙ ap₂ (λ es k. insert_entry bytes_eq es k c.args.pattern) c.self.view_is (c.in_ok-key.ensures.ok ∙ c.as_str.ensures)
