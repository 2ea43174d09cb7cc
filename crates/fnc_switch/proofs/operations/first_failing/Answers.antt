-- The place that the chain finds is that of a plug.
use Rattle.std.proofs.Common.{ℕ, Option, Some, None, ◌≡◌, refl, sym, ◌∙◌, rules, tests, lit<, ◌<◌, length}
use Rattle.std.specs.Prelude.{IfSome, find, option_map}
use Rattle.std.specs.List.{filter_map}
use Rattle.std.proofs.lemmas.Iterator.Consumers.{YieldsList-from_filter_map}
use Rattle.std.proofs.lemmas.Iterator.Search.{find_from_yields_List}
use Rattle.std.proofs.lemmas.Iterator.Splits.{YieldsList-from_str_split}
use Rattle.fnc_switch.specs.declared.plug.Plug.{Plug}
use Rattle.fnc_switch.specs.Agents.{is_failing}
use Rattle.fnc_switch.specs.References.{meant, references}
use Rattle.fnc_switch.proofs.Places.{failing_within}
use Rattle.fnc_switch.proofs.operations.first_failing.Goals as goal
use Rattle.std.proofs.Common.{List}

same_option : (o : Option ℕ) → o ≡ option_map (λ i. i) o
same_option None = refl
same_option (Some i) = refl

within : (ps : List Plug) (is : List ℕ) (o : Option ℕ) → o ≡ find (is_failing ps) is
    → IfSome o (λ i. i < length ps)
within ps is None e = tt
within ps is (Some i) e = failing_within ps is i (sym e)

pub returns : goal.returns
returns c =
    let place : c.find.result
    ≡ find (is_failing c.args.plugs.now) (filter_map (meant c.args.plugs.now) (references c.args.value.now)) =
    same_option c.find.result
    ∙ find_from_yields_List (is_failing c.args.plugs.now) _ _ c.find.result c.find.ensures.ran
    (YieldsList-from_filter_map _ (meant c.args.plugs.now)
    (YieldsList-from_str_split 44 c.args.value.now (lit< tt) (cc) (cc) (cc)) c.filter_map.ensures.closure
    (λ x r q k. search (rules, tests))) (λ x b q k. search (rules, tests)) in
    record {
      place = place;
      within =
          within c.args.plugs.now (filter_map (meant c.args.plugs.now) (references c.args.value.now))
          c.find.result place;
    }
