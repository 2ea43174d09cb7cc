-- An operation that succeeded left each meant plug in its state.
use Rattle.std.proofs.Common.{ℕ, ◌<◌, List, [], ◌∷◌, Bool, true, false, cond, Option, Some, None, length, eqb, ◌≡◌, refl, sym, ap, ◌∙◌, subst, arith, zero, suc}
use Rattle.std.specs.Prelude.{bytes_eq, find, is_some, nat_lt, option_and_then, position, slice_get, IsTrue}
use Rattle.std.specs.List.{cons_option, filter_map, list_all, position_or_len}
use Rattle.std.specs.Option.{option_or}
use Rattle.std.proofs.lemmas.Bool.{and_from, and_parts, ltb-true}
use Rattle.fnc_journal.specs.declared.names.Pair.{Pair}
use Rattle.fnc_switch.specs.declared.action.Action.{Action}
use Rattle.fnc_switch.specs.declared.action.Operation.{Operation}
use Rattle.fnc_switch.specs.declared.plug.Plug.{Plug}
use Rattle.fnc_switch.specs.Agents.{acts, acts_on, all_in, changed, is_failing, is_meant, is_turned, left_on, operated, operates, silent, switched, tried, turned, Done, Leaves}
use Rattle.fnc_switch.specs.References.{aliased, asked, meant, named, references}
use Rattle.fnc_switch.proofs.Places.{meant_changed, meant_switched, same_places, switched_again}

-- a plug at a place is on, or off
abbrev is_at : Bool → List Plug → ℕ → Bool
is_at on ps i = is_turned on (slice_get ps i)

turned_is : (on : Bool) (p : Plug) → is_turned on (Some (turned on p)) ≡ true
turned_is true p = refl
turned_is false p = refl

-- the plug that is switched is in its state, where there is one
at_changed : (on : Bool) (ps : List Plug) (i : ℕ) → i < length ps → is_at on (changed (turned on) i ps) i ≡ true
at_changed on [] i l = absurd (omega arith)
at_changed on (p ∷ ps) zero l = turned_is on p
at_changed on (p ∷ ps) (suc i) l = at_changed on ps i (omega arith)

-- and stays in it when others are switched so
at_other : (on : Bool) (ps : List Plug) (i j : ℕ) → is_at on ps j ≡ true
    → is_at on (changed (turned on) i ps) j ≡ true
at_other on [] i j e = e
at_other on (p ∷ ps) zero zero e = turned_is on p
at_other on (p ∷ ps) zero (suc j) e = e
at_other on (p ∷ ps) (suc i) zero e = e
at_other on (p ∷ ps) (suc i) (suc j) e = at_other on ps i j e

at_switched : (on : Bool) (places : List ℕ) (ps : List Plug) (j : ℕ) → is_at on ps j ≡ true
    → is_at on (switched on places ps) j ≡ true
at_switched on [] ps j e = e
at_switched on (i ∷ is) ps j e = at_switched on is (changed (turned on) i ps) j (at_other on ps i j e)

-- what is meant is there
position_within : (test : Plug → Bool) (ps : List Plug) (i : ℕ) → position test ps ≡ Some i → i < length ps
position_within test ps i e = go (nat_lt (position_or_len test ps) (length ps)) refl e
  where
    go : (b : Bool) → nat_lt (position_or_len test ps) (length ps) ≡ b
        → cond b (Some (position_or_len test ps)) None ≡ Some i → i < length ps
    go true l k =
        let same : position_or_len test ps ≡ i = cc in
        subst (λ n. n < length ps) same (ltb-true (position_or_len test ps) (length ps) l)
    go false l k = cc

either_within : (ps : List Plug) (i : ℕ) (first second : Option ℕ) → (first ≡ Some i → i < length ps)
    → (second ≡ Some i → i < length ps) → option_or first second ≡ Some i → i < length ps
either_within ps i None second f s e = s e
either_within ps i (Some n) second f s e = f e

meant_within : (ps : List Plug) (r : List ℕ) (i : ℕ) → meant ps r ≡ Some i → i < length ps
meant_within ps r i e = go (eqb (length r) 0) e
  where
    go : (b : Bool) → cond b None (option_or (named ps r) (aliased ps r)) ≡ Some i → i < length ps
    go true k = cc
    go false k =
        either_within ps i (named ps r) (aliased ps r) (position_within (λ (p : Plug). bytes_eq r p.name) ps i)
        (position_within (λ (p : Plug). bytes_eq r p.alias) ps i) k

means_same : (f g : List ℕ → Option ℕ) → ((r : List ℕ) → f r ≡ g r) → (rs : List (List ℕ))
    → list_all (λ r. is_some (f r)) rs ≡ list_all (λ r. is_some (g r)) rs
means_same f g same [] = refl
means_same f g same (r ∷ rs) = rw (same r, means_same f g same rs) refl

is_meant_at : (on : Bool) (ps : List Plug) (r : List ℕ) (i : ℕ) → meant ps r ≡ Some i → is_at on ps i ≡ true
    → is_meant on ps r ≡ true
is_meant_at on ps r i m e = ap (λ o. is_turned on (option_and_then (slice_get ps) o)) m ∙ e

-- the plug of one more reference, before those of the others
one_more : (on : Bool) (ps : List Plug) (r : List ℕ) (rs : List (List ℕ)) (i : ℕ) → meant ps r ≡ Some i
    → list_all (is_meant on (switched on (filter_map (meant (changed (turned on) i ps)) rs)
    (changed (turned on) i ps))) rs ≡ true
    → list_all (is_meant on (switched on (i ∷ filter_map (meant ps) rs) ps)) (r ∷ rs) ≡ true
one_more on ps r rs i m others =
    let next = changed (turned on) i ps in
    let places = filter_map (meant ps) rs in
    let left = switched on places next in
    let same : filter_map (meant next) rs ≡ places = same_places (meant next) (meant ps) (meant_changed on ps i) rs in
    and_from (is_meant on left r) (list_all (is_meant on left) rs)
    (is_meant_at on left r i (meant_switched on places next r ∙ meant_changed on ps i r ∙ m)
    (at_switched on places next i (at_changed on ps i (meant_within ps r i m))))
    (ap (λ is. list_all (is_meant on (switched on is next)) rs) (sym same) ∙ others)

one_meant : (on : Bool) (ps : List Plug) (r : List ℕ) (rs : List (List ℕ)) (o : Option ℕ) → meant ps r ≡ o
    → is_some o ≡ true
    → ((i : ℕ) → list_all (is_meant on (switched on (filter_map (meant (changed (turned on) i ps)) rs)
    (changed (turned on) i ps))) rs ≡ true)
    → list_all (is_meant on (switched on (cons_option o (filter_map (meant ps) rs)) ps)) (r ∷ rs) ≡ true
one_meant on ps r rs None m some others = cc
one_meant on ps r rs (Some i) m some others = one_more on ps r rs i m (others i)

all_left : (on : Bool) (ps : List Plug) (rs : List (List ℕ)) → list_all (λ r. is_some (meant ps r)) rs ≡ true
    → list_all (is_meant on (switched on (filter_map (meant ps) rs) ps)) rs ≡ true
all_left on ps [] e = refl
all_left on ps (r ∷ rs) e =
    let parts = and_parts (is_some (meant ps r)) (list_all (λ q. is_some (meant ps q)) rs) e in
    one_meant on ps r rs (meant ps r) refl parts.0 (λ i. all_left on (changed (turned on) i ps) rs
    (means_same (meant (changed (turned on) i ps)) (meant ps) (meant_changed on ps i) rs ∙ parts.1))

operated_left : (operation : Operation) (ps : List Plug) (rs : List (List ℕ))
    → list_all (λ r. is_some (meant ps r)) rs ≡ true
    → list_all (is_meant (left_on operation) (operated operation (filter_map (meant ps) rs) ps)) rs ≡ true
operated_left Operation.On ps rs e = all_left true ps rs e
operated_left Operation.Off ps rs e = all_left false ps rs e
operated_left Operation.Reboot ps rs e =
    let places = filter_map (meant ps) rs in
    let off = switched false places ps in
    ap (λ is. list_all (is_meant true (switched true is off)) rs) (sym (switched_again false places ps rs))
    ∙ all_left true off rs (means_same (meant off) (meant ps) (meant_switched false places ps) rs ∙ e)

operates_left : (operation : Operation) (ps : List Plug) (rs : List (List ℕ))
    → (operates operation rs ps).status ≡ 0
    → list_all (is_meant (left_on operation) (operates operation rs ps).plugs) rs ≡ true
operates_left operation ps rs z =
    go (list_all (λ r. is_some (meant ps r)) rs) refl (find (is_failing ps) (filter_map (meant ps) rs)) z
  where
    go : (b : Bool) → list_all (λ r. is_some (meant ps r)) rs ≡ b → (o : Option ℕ)
        → (cond b (tried operation (filter_map (meant ps) rs) ps o) (silent 1 ps)).status ≡ 0
        → list_all (is_meant (left_on operation)
        (cond b (tried operation (filter_map (meant ps) rs) ps o) (silent 1 ps)).plugs) rs ≡ true
    go false all o k = absurd (omega arith)
    go true all (Some i) k = absurd (omega arith)
    go true all None k = operated_left operation ps rs all

asked_left : (operation : Operation) (value : Option (List ℕ)) (ps : List Plug)
    → (acts_on (Action.Operate operation) value ps).status ≡ 0
    → IsTrue (all_in (left_on operation) value (acts_on (Action.Operate operation) value ps).plugs)
asked_left operation None ps z = absurd (omega arith)
asked_left operation (Some value) ps z = operates_left operation ps (references value) z

acts_left : (action : Action) (options : List Pair) (ps : List Plug) → (acts action options ps).status ≡ 0
    → Leaves action options (acts action options ps).plugs
acts_left (Action.Operate operation) options ps z = asked_left operation (asked options) ps z
acts_left Action.Status options ps z = tt
acts_left Action.List options ps z = tt
acts_left Action.Monitor options ps z = tt

pub leaves : (action : Action) (options : List Pair) (old : List Plug) (done : Done) → acts action options old ≡ done
    → done.status ≡ 0 → Leaves action options done.plugs
leaves action options old done same =
    subst (λ (d : Done). d.status ≡ 0 → Leaves action options d.plugs) same (acts_left action options old)
