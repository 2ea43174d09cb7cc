use Rattle.std.proofs.Common.{ap, subst, Some, None, if◌then◌else◌}
use Rattle.regex.specs.Failures.{IsRightKind}
use Rattle.regex.specs.Patterns.{default_config}
use Rattle.fnc_config.specs.declared.faults.LevelFault.{LevelFault}
use Rattle.fnc_config.proofs.pattern.Pattern.new.Goals as goal
use Rattle.fnc_config.proofs.PatternTexts.{compiled-is, refused-is-none}

pub returns-in-Ok-clause-cause : goal.returns-in-Ok-clause-cause
returns-in-Ok-clause-cause c =
    ap (λ b. if b then None else Some LevelFault.BadPattern)
    (compiled-is _ _ c.args.text.now _ _ c.in-Ok.ensures.config c.in-Ok.ensures.source c.in-Ok.ensures.read)

pub returns-in-Err-Syntax-clause-cause : goal.returns-in-Err-Syntax-clause-cause
returns-in-Err-Syntax-clause-cause c =
    let text = c.args.text.now in
    let error = c.in-Err-Syntax.field-0-0 in
    let refused = c.in-Err-Syntax.ensures.by_grammar error c.in-Err-Syntax.field-0-is in
    let kind = subst (IsRightKind default_config text) c.in-Err-Syntax.field-0-is c.in-Err-Syntax.ensures.kind in
    ap (λ b. if b then None else Some LevelFault.BadPattern) (refused-is-none text error.kind refused kind)
