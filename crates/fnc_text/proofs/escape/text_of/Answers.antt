use Rattle.std.proofs.Common.{◌≡◌, refl, ap, subst}
use Rattle.std.specs.String.{string_bytes}
use Rattle.std.specs.Str.{IsUtf8}
use Rattle.std.proofs.lemmas.Str.{is_utf8-from_IsUtf8, IsUtf8-string_bytes}
use Rattle.std.proofs.lemmas.Bool.{false≢true}
use Rattle.fnc_text.proofs.EscapeLemmas.{is_utf8-not}
use Rattle.fnc_text.proofs.escape.text_of.Goals as goal

pub returns : goal.returns
returns c = rw (is_utf8-not c.args.bytes.items (λ u. false≢true (c.in-Err.ensures.succeeds u))) refl

pub returns-in-Ok : goal.returns-in-Ok
returns-in-Ok c =
    let same : string_bytes c.in-Ok.text ≡ c.args.bytes.items = ap (λ v. v.items) c.in-Ok.ensures.ok in
    let utf8 = is_utf8-from_IsUtf8 c.args.bytes.items (subst IsUtf8 same (IsUtf8-string_bytes c.in-Ok.text)) in
    rw (c.from_string.ensures, same, utf8) refl
