use Rattle.std.proofs.Common.{◌∙◌, ap, sym, arith, length, is_some}
use Rattle.std.specs.Prelude.{bytes_eq}
use Rattle.std.specs.Map.{lookup}
use Rattle.fnc_config.proofs.numbers.Numbers.others.Goals as goal
use Rattle.fnc_config.proofs.Shown.{found, length-shown, others-of-absent, others-of-present}

pub returns-then-contains_key : goal.returns-then-contains_key
returns-then-contains_key c =
    let name = c.args.name.now in
    let entries = c.self.inside.numbers.entries in
    let has = sym (c.contains_key.ensures
    ∙ ap is_some (found name entries ∙ ap (lookup (bytes_eq name)) c.self.view_is)) in
    omega (
      arith,
      c.len.ensures.len,
      length-shown entries,
      ap length c.self.view_is,
      others-of-present name c.args.self.now (has ∙ c.if-contains_key.true),
    )

pub returns-else-contains_key : goal.returns-else-contains_key
returns-else-contains_key c =
    let name = c.args.name.now in
    let entries = c.self.inside.numbers.entries in
    let has = sym (c.contains_key.ensures
    ∙ ap is_some (found name entries ∙ ap (lookup (bytes_eq name)) c.self.view_is)) in
    omega (
      arith,
      c.len-else-contains_key.ensures.len,
      length-shown entries,
      ap length c.self.view_is,
      others-of-absent name c.args.self.now (has ∙ c.if-contains_key.false),
    )
