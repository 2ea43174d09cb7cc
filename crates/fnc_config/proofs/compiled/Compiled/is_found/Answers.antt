use Rattle.std.proofs.Common.{ℕ, List, Bool, ◌≡◌, ◌∙◌, sym, subst, IfOk}
use Rattle.fnc_config.specs.Patterns.{finds}
use Rattle.fnc_config.proofs.compiled.Compiled.is_found.Goals as goal
use Rattle.fnc_config.proofs.CompiledTexts.{by-text-found}
use Rattle.fnc_config.proofs.Shown.{found, shown}

pub returns-in-Some : goal.returns-in-Some
returns-in-Some c =
    let text = c.args.text.now in
    let entries = c.self.inside.patterns.entries in
    subst (λ (t : List ℕ). IfOk c.is_found.result (λ (b : Bool). b ≡ finds t c.args.node.now))
    (by-text-found text c.in-Some.pattern.now (shown entries) (sym (c.in-Some.ensures.value ∙ found text entries))
    c.self.invariant)
    c.is_found.ensures
