-- The items of an array as they are seen: tests of each, and one after the other.
use Rattle.std.proofs.Common.{ℕ, ◌+◌, ◌<◌, List, [], ◌∷◌, ◌++◌, Bool, ◌||◌, ◌&&◌, Option, Some, None, Ok, Err, length, drop, get_or, ◌≡◌, refl, sym, ap, ◌∙◌, append_assoc, add-one, drop-cons, subst}
use Rattle.std.specs.List.{list_any, list_all}
use Rattle.serde_json.specs.Data.{Data, item}
use Rattle.serde_json.specs.View.{view, items_view}
use Rattle.serde_json.specs.declared.value.Value.{Value}
use Rattle.fnc_journal.specs.declared.definition.Parameter.{Parameter}
use Rattle.fnc_agent_api.specs.declared.description.Field.{Field}
use Rattle.fnc_agent_api.specs.declared.description.DescribeFault.{DescribeFault}
use Rattle.fnc_agent_api.specs.Descriptions.{any_item, all_items, item_count, parameters_in, parameter_of, with_parameter, field_or, Fails}

pub any_item_seen : (test : Data → Bool) (vs : List Value) → any_item test (items_view vs)
    ≡ list_any (λ v. test (view v)) vs
any_item_seen test [] = refl
any_item_seen test (v ∷ vs) = ap (λ b. test (view v) || b) (any_item_seen test vs)

pub all_items_seen : (test : Data → Bool) (vs : List Value) → all_items test (items_view vs)
    ≡ list_all (λ v. test (view v)) vs
all_items_seen test [] = refl
all_items_seen test (v ∷ vs) = ap (λ b. test (view v) && b) (all_items_seen test vs)

pub item_count_seen : (vs : List Value) → item_count (items_view vs) ≡ length vs
item_count_seen [] = refl
item_count_seen (v ∷ vs) = ap (λ n. n + 1) (item_count_seen vs) ∙ add-one (length vs)

-- what is left begins with the item of the index
pub items_left : (vs : List Value) (i : ℕ) (v : Value) → i < length vs → v ≡ get_or vs i v
    → items_view (drop i vs) ≡ item (view v) (items_view (drop (i + 1) vs))
items_left vs i v l is = ap items_view (drop-cons vs i v l) ∙ rw (← is, add-one) refl

-- the parameters read so far, and those of the items that are left
abbrev pub after_parameters : List Parameter → Option (List Parameter) → Option (List Parameter)
after_parameters front None = None
after_parameters front (Some ps) = Some (front ++ ps)

regrouped : (front : List Parameter) (p : Parameter) (rest : Option (List Parameter))
    → after_parameters (front ++ p ∷ []) rest ≡ after_parameters front (with_parameter (Some p) rest)
regrouped front p None = refl
regrouped front p (Some ps) = ap (λ (xs : List Parameter). Some xs) (simp append_assoc)

-- after one more item
pub goes_on : (front : List Parameter) (vs : List Value) (i : ℕ) (v : Value) (p : Parameter) → i < length vs
    → v ≡ get_or vs i v → parameter_of (view v) ≡ Some p
    → after_parameters front (parameters_in (items_view (drop i vs))) ≡ parameters_in (items_view vs)
    → after_parameters (front ++ p ∷ []) (parameters_in (items_view (drop (i + 1) vs))) ≡ parameters_in (items_view vs)
goes_on front vs i v p l is read so_far =
    regrouped front p (parameters_in (items_view (drop (i + 1) vs)))
    ∙ ap (λ q. after_parameters front (with_parameter q (parameters_in (items_view (drop (i + 1) vs))))) (sym read)
    ∙ ap (λ ds. after_parameters front (parameters_in ds)) (sym (items_left vs i v l is))
    ∙ so_far

-- a bad parameter makes all of them bad
none_after : (fault : DescribeFault) (front : List Parameter) (p : Option Parameter) (ps : Option (List Parameter))
    → Fails fault (field_or Field.Parameters p)
    → Fails fault (field_or Field.Parameters (after_parameters front (with_parameter p ps)))
none_after DescribeFault.NoMemory front p ps bad = tt
none_after fault front None ps bad =
    let same : DescribeFault.BadField Field.Parameters ≡ fault = cc in
    ap (λ (f : DescribeFault). Err f) same
none_after fault front (Some p) ps bad = cc

-- at a bad item
pub ends : (fault : DescribeFault) (front : List Parameter) (vs : List Value) (i : ℕ) (v : Value) → i < length vs
    → v ≡ get_or vs i v
    → Fails fault (field_or Field.Parameters (parameter_of (view v)))
    → after_parameters front (parameters_in (items_view (drop i vs))) ≡ parameters_in (items_view vs)
    → Fails fault (field_or Field.Parameters (parameters_in (items_view vs)))
ends fault front vs i v l is bad so_far =
    subst (λ ps. Fails fault (field_or Field.Parameters ps))
    (ap (λ ds. after_parameters front (parameters_in ds)) (sym (items_left vs i v l is)) ∙ so_far)
    (none_after fault front (parameter_of (view v)) (parameters_in (items_view (drop (i + 1) vs))) bad)

-- a parameter that was read is there
pub read_ok : (p : Parameter) (found : Option Parameter) → field_or Field.Parameters found ≡ Ok p → found ≡ Some p
read_ok p None e = cc
read_ok p (Some q) e = let same : q ≡ p = cc in ap (λ (x : Parameter). Some x) same
