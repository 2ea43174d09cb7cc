use Rattle.std.proofs.Common.{sym, refl}
use Rattle.fnc_text.proofs.EscapeLemmas.{percent_decode-spelled}
use Rattle.fnc_text.proofs.escape.decoded.Goals as goal

pub returns : goal.returns
returns c =
    let none = c.in_default.ensures in
    let decodes = percent_decode-spelled 0 c.args.word.now (sym none) in
    rw (c.in_ok-append_to.ensures.ok, c.new-bytes.ensures.items, c.percent_decode.ensures.bytes, decodes, sym none) refl
