use Rattle.std.proofs.Common.{◌∙◌, ap, ap₂}
use Rattle.std.specs.Prelude.{bytes_eq}
use Rattle.indexmap.specs.IndexMap.{insert_entry}
use Rattle.fnc_config.proofs.numbers.Numbers.put.Goals as goal
use Rattle.fnc_config.proofs.Shown.{inserted, shown}

pub returns-clause-ok : goal.returns-clause-ok
returns-clause-ok c =
    ap shown c.in_ok-insert.ensures.entries
    ∙ inserted c.self.inside.numbers.entries c.in_ok-key.key c.args.number
    ∙ ap₂ (λ es k. insert_entry bytes_eq es k c.args.number) c.self.view_is c.in_ok-key.ensures.ok
