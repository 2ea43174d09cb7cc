-- What a JSON value describes is within the bounds of what is told of an agent.
use Rattle.std.proofs.Common.{ℕ, ◌≤◌, ◌+◌, List, [], ◌∷◌, Bool, true, false, cond, Option, Some, None, Result, Ok, Err, length, ◌≡◌, refl, sym, ap, ◌∙◌, subst, arith}
use Rattle.std.specs.Prelude.{IsTrue, IfOk, nat_le, codes, is_some, option_and_then}
use Rattle.std.specs.List.{list_all}
use Rattle.std.proofs.lemmas.Bool.{and_from, le-leb, leb-true}
use Rattle.serde_json.specs.Data.{Data, Items, no_items, item}
use Rattle.serde_json.specs.Find.{get, as_array, as_object, as_str}
use Rattle.fnc_journal.specs.declared.definition.Actions.{Actions}
use Rattle.fnc_journal.specs.declared.definition.Description.{Description}
use Rattle.fnc_journal.specs.declared.definition.Parameter.{Parameter}
use Rattle.fnc_journal.specs.declared.limits.TheConstants.{MOST_PARAMETERS}
use Rattle.fnc_journal.specs.Bounds.{is_carrier, is_option_name}
use Rattle.fnc_journal.specs.EntryBounds.{is_described, is_parameter}
use Rattle.fnc_agent_api.specs.declared.description.DescribeFault.{DescribeFault}
use Rattle.fnc_agent_api.specs.Descriptions.{
  a_target,
  actions_of,
  description,
  description_of,
  item_count,
  parameter,
  parameter_name,
  parameter_of,
  parameters_in,
  parameters_of,
  parameters_of_items,
  required_of,
  target_of,
  with_parameter,
  Gives,
}

-- a name that was read is that of an option
name-is : (text : Option (List ℕ)) (name : List ℕ) → parameter_name text ≡ Some name → is_option_name name ≡ true
name-is None name h = absurd cc
name-is (Some text) name h = go (is_option_name text) refl h where
  go : (passes : Bool) → is_option_name text ≡ passes → cond passes (Some text) None ≡ Some name
      → is_option_name name ≡ true
  go true e h = let same : text ≡ name = cc in subst (λ n. is_option_name n ≡ true) same e
  go false e h = absurd cc

parameter-is : (name : Option (List ℕ)) (required : Option Bool) (p : Parameter)
    → ((n : List ℕ) → name ≡ Some n → is_option_name n ≡ true) → parameter name required ≡ Some p
    → is_parameter p ≡ true
parameter-is None required p named h = absurd cc
parameter-is (Some name) None p named h = absurd cc
parameter-is (Some name) (Some required) p named h =
    let read : Parameter = record { name = name; required = required } in
    let same : read ≡ p = cc in
    subst (λ q. is_parameter q ≡ true) same (named name refl)

-- the parameters of items are as many as these, and each is one
pub record AreParameters (ds : Items) (ps : List Parameter) : Type 0 where
  pub many : length ps ≡ item_count ds
  pub each : list_all is_parameter ps ≡ true

more-parameters : (d : Data) (ds : Items) (found : Option Parameter) (rest : Option (List Parameter))
    (ps : List Parameter) → ((p : Parameter) → found ≡ Some p → is_parameter p ≡ true)
    → ((qs : List Parameter) → rest ≡ Some qs → AreParameters ds qs) → with_parameter found rest ≡ Some ps
    → AreParameters (item d ds) ps
more-parameters d ds None rest ps one others h = absurd cc
more-parameters d ds (Some p) None ps one others h = absurd cc
more-parameters d ds (Some p) (Some qs) ps one others h =
    let same : p ∷ qs ≡ ps = cc in
    let all = others qs refl in
    subst (AreParameters (item d ds)) same
    (record { many = omega (arith, all.many); each = and_from _ _ (one p refl) all.each })

parameters-are : (ds : Items) (ps : List Parameter) → parameters_in ds ≡ Some ps → AreParameters ds ps
parameters-are no_items ps h =
    let same : [] ≡ ps = cc in subst (AreParameters no_items) same (record { many = refl; each = refl })
parameters-are (item d ds) ps h =
    more-parameters d ds (parameter_of d) (parameters_in ds) ps
    (λ p. parameter-is (parameter_name (option_and_then as_str (get (codes "name") d)))
    (required_of (get (codes "required") d)) p
    (name-is (option_and_then as_str (get (codes "name") d))))
    (parameters-are ds) h

-- at most as many parameters as may be, and each is one
pub record AreFewParameters (ps : List Parameter) : Type 0 where
  pub few : nat_le (length ps) MOST_PARAMETERS ≡ true
  pub each : list_all is_parameter ps ≡ true

few-parameters : (items : Option Items) (ps : List Parameter) → parameters_of_items items ≡ Some ps
    → AreFewParameters ps
few-parameters None ps h = absurd cc
few-parameters (Some ds) ps h = go (nat_le (item_count ds) MOST_PARAMETERS) refl h where
  go : (few : Bool) → nat_le (item_count ds) MOST_PARAMETERS ≡ few → cond few (parameters_in ds) None ≡ Some ps
      → AreFewParameters ps
  go true e h =
      let all = parameters-are ds ps h in
      record { few = ap (λ n. nat_le n MOST_PARAMETERS) all.many ∙ e; each = all.each }
  go false e h = absurd cc

field-parameters : (field : Option Data) (ps : List Parameter) → parameters_of field ≡ Some ps → AreFewParameters ps
field-parameters None ps h =
    let same : [] ≡ ps = cc in subst AreFewParameters same (record { few = refl; each = refl })
field-parameters (Some d) ps h = few-parameters (as_array d) ps h

named-target : (name : Option (List ℕ)) (target : Option (List ℕ))
    → ((n : List ℕ) → name ≡ Some n → is_option_name n ≡ true) → a_target name ≡ Some target
    → is_carrier target ≡ true
named-target None target named h = absurd cc
named-target (Some name) target named h =
    let same : Some name ≡ target = cc in subst (λ t. is_carrier t ≡ true) same (named name refl)

field-target : (field : Option Data) (target : Option (List ℕ)) → target_of field ≡ Some target
    → is_carrier target ≡ true
field-target None target h =
    let none : Option (List ℕ) = None in
    let same : none ≡ target = cc in subst (λ t. is_carrier t ≡ true) same refl
field-target (Some d) target h = named-target (parameter_name (as_str d)) target (name-is (as_str d)) h

-- the description that fields make, each of which is within its bounds
made-is : (actions : Option Actions) (parameters : Option (List Parameter)) (target : Option (Option (List ℕ)))
    (d : Description) → ((ps : List Parameter) → parameters ≡ Some ps → AreFewParameters ps)
    → ((t : Option (List ℕ)) → target ≡ Some t → is_carrier t ≡ true) → description actions parameters target ≡ Ok d
    → is_described d ≡ true
made-is None parameters target d few named h = absurd cc
made-is (Some actions) None target d few named h = absurd cc
made-is (Some actions) (Some parameters) None d few named h = absurd cc
made-is (Some actions) (Some parameters) (Some target) d few named h = go actions.off refl h where
  go : (off : Bool) → actions.off ≡ off
      → cond off (Ok (record { actions = actions; parameters = parameters; target = target })) (Err DescribeFault.NoOff)
      ≡ Ok d → is_described d ≡ true
  go true e h =
      let all = few parameters refl in
      let made : Description = record { actions = actions; parameters = parameters; target = target } in
      let same : made ≡ d = cc in
      subst (λ x. is_described x ≡ true) same
      (and_from _ _ (and_from _ _ (and_from _ _ e all.few) all.each) (named target refl))
  go false e h = absurd cc

-- what the fields of a value describe
abbrev fields : Data → Result Description DescribeFault
fields value =
    description (actions_of (get (codes "actions") value)) (parameters_of (get (codes "parameters") value))
    (target_of (get (codes "target_parameter") value))

-- what a JSON value describes is within its bounds
described-is : (value : Data) (d : Description) → description_of value ≡ Ok d → is_described d ≡ true
described-is value d h = go (is_some (as_object value)) h where
  go : (object : Bool) → cond object (fields value) (Err DescribeFault.NotObject) ≡ Ok d → is_described d ≡ true
  go true h =
      made-is (actions_of (get (codes "actions") value)) (parameters_of (get (codes "parameters") value))
      (target_of (get (codes "target_parameter") value)) d (field-parameters (get (codes "parameters") value))
      (field-target (get (codes "target_parameter") value)) h
  go false h = absurd cc

-- an answer that gives the description of a JSON value gives one within its bounds
pub IfOk-described : (value : Data) (answer : Result Description DescribeFault) → Gives answer (description_of value)
    → IfOk answer (λ d. IsTrue (is_described d))
IfOk-described value (Ok d) h = described-is value d h
IfOk-described value (Err fault) h = tt
