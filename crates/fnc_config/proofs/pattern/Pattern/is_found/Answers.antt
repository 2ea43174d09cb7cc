use Rattle.std.proofs.Common.{◌<◌, ◌∙◌, ℕ, ap, is_some, get_or, arith}
use Rattle.regex.specs.Patterns.{find_str}
use Rattle.fnc_config.proofs.pattern.Pattern.is_found.Goals as goal
use Rattle.fnc_config.proofs.PatternTexts.{found-compiled}

pub returns : goal.returns
returns c =
    let node = c.args.node.now in
    let own = c.self.inside.regex.pattern in
    let bytes : (k : ℕ) → get_or node k 0 < 256 = λ k. omega (arith, c.type_inv.node k) in
    c.is_match.ensures.found
    ∙ ap (λ re. is_some (find_str re node 0)) c.in_ok-matcher.ensures.pattern
    ∙ found-compiled _ _ c.args.self.now own.program.hir _ node bytes
    c.self.invariant.0 c.self.view_is c.self.invariant.1
