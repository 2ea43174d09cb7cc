use Rattle.std.proofs.Common.{rules, tests, lit<}
use Rattle.std.specs.Prelude.{is_some}
use Rattle.std.proofs.lemmas.Iterator.Search.{all_from_yields_List}
use Rattle.std.proofs.lemmas.Iterator.Splits.{YieldsList-from_str_split}
use Rattle.fnc_switch.specs.References.{meant}
use Rattle.fnc_switch.proofs.references.all_mean_a_plug.Goals as goal

pub returns : goal.returns
returns c = all_from_yields_List (λ r. is_some (meant c.args.plugs.now r)) _ _ _ c.all.ensures.ran
    (YieldsList-from_str_split 44 c.args.value.now (lit< tt) c.split.ensures.text c.split.ensures.has_more
    c.split.ensures.pattern) (λ x b q k. search (rules, tests))
