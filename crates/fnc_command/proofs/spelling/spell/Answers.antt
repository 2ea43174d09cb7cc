use Rattle.std.proofs.Common.{◌≤◌, length, sym, ap, refl, arith}
use Rattle.fnc_text.specs.Escapes.{spelled}
use Rattle.fnc_text.proofs.EscapeLemmas.{percent_decode-spelled}
use Rattle.fnc_command.proofs.Spellings.{length-spelled}
use Rattle.fnc_command.proofs.spelling.spell.Goals as goal

pub loop-byte-init : goal.loop-byte-init
loop-byte-init c =
    let word = c.args.word.now in
    let fits : length (spelled word) ≤ length word = length-spelled word in
    let decodes = percent_decode-spelled 0 word (sym c.in_default.ensures) in
    let size = ap (λ b. b.size) c.clear.ensures in
    record {
      same_size = size;
      joined = rw (
        c.clear.ensures,
        c.into_iter-byte-iterator.ensures.into_iter_gives,
        c.percent_decode-byte-items.ensures.bytes,
        decodes,
      ) refl;
      room = rw size (omega (arith, c.requires));
    }
