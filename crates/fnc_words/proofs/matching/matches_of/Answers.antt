use Rattle.std.proofs.Common.{◌∙◌, ap, subst, map, string_bytes}
use Rattle.clap.specs.Words.{App, HasKind, fault_of, is_simple, is_simple_and_free}
use Rattle.fnc_words.proofs.Finding.{finds}
use Rattle.fnc_words.proofs.Refusing.{refused}
use Rattle.fnc_words.proofs.matching.matches_of.Goals as goal

pub returns-in-Ok : goal.returns-in-Ok
returns-in-Ok c = λ app made exact.
    finds app c.args.command c.in-Ok.matches made exact c.in-Ok.ensures.parsed (map string_bytes c.args.words.now)
    (c.in-Ok.ensures.kinds (ap is_simple_and_free made.shape ∙ exact.free))
    (c.in-Ok.ensures.matches (ap is_simple made.shape ∙ exact.simple)).0

pub returns-in-Err : goal.returns-in-Err
returns-in-Err c = λ app made exact.
    let words = map string_bytes c.args.words.now in
    refused app words c.in-Err.error c.fault_of.result
    (subst (λ (a : App). HasKind (fault_of a words) c.in-Err.error) made.shape
    (c.in-Err.ensures.kinds (ap is_simple_and_free made.shape ∙ exact.free))) c.fault_of.ensures
