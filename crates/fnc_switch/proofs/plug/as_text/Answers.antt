use Rattle.std.proofs.Common.{◌≡◌, ℕ, List, Some, false, refl, ap}
use Rattle.std.specs.Str.{is_utf8}
use Rattle.std.proofs.lemmas.Str.{is_utf8-from_IsUtf8, IsUtf8-from_is_utf8}
use Rattle.std.proofs.lemmas.Bool.{false_from_ne_true}
use Rattle.fnc_switch.proofs.plug.as_text.Goals as goal

pub returns-in-Ok : goal.returns-in-Ok
returns-in-Ok c = rw (is_utf8-from_IsUtf8 c.args.bytes.now c.in-Ok.ensures.cases.1)
    (ap (λ (t : List ℕ). Some t) c.in-Ok.ensures.cases.0)

pub returns-in-Err : goal.returns-in-Err
returns-in-Err c =
    let no_text : is_utf8 c.args.bytes.now ≡ false =
    false_from_ne_true (is_utf8 c.args.bytes.now) (λ e.
    c.in-Err.ensures.cases.0 (IsUtf8-from_is_utf8 c.args.bytes.now e)) in
    rw no_text refl
