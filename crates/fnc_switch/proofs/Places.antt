-- Plugs that are changed at their places. What they are called stays, so references mean the same plugs.
use Rattle.std.proofs.Common.{ℕ, ◌+◌, ◌-◌, ◌<◌, ◌≤◌, List, [], ◌∷◌, ◌++◌, Bool, true, false, cond, ◌&&◌, Option, Some, None, length, eqb, get_or, set, ◌≡◌, refl, sym, ap, ◌∙◌, arith, zero, suc}
use Rattle.std.specs.Prelude.{not, nat_le, option_to_list, IsTrue, find, slice_get, position, bytes_eq}
use Rattle.std.specs.List.{filter_map, list_all, position_or_len}
use Rattle.std.specs.Option.{option_or}
use Rattle.std.proofs.lemmas.Bool.{and_from, and_parts, leb-true, le-leb}
use Rattle.std.proofs.lemmas.List.Elements.{filter_map-append}
use Rattle.std.proofs.lemmas.Option.{slice_get_within}
use Rattle.fnc_switch.specs.declared.action.Operation.{Operation}
use Rattle.fnc_switch.specs.declared.plug.Plug.{Plug}
use Rattle.fnc_switch.specs.declared.plug.TheConstants.{MOST_FAILURES, MOST_PLUGS}
use Rattle.fnc_switch.specs.Agents.{changed, fails_still, is_failing, one_less, operated, switched, turned}
use Rattle.fnc_switch.specs.Plugs.{is_alias, is_name, is_plug}
use Rattle.fnc_switch.specs.References.{aliased, meant, named}
use Rattle.fnc_switch.specs.Switches.{is_switch}

-- a write at a place changes the plug there
pub changed_at : (change : Plug → Plug) (ps : List Plug) (i : ℕ) (d : Plug) → i < length ps
    → set ps i (change (get_or ps i d)) ≡ changed change i ps
changed_at change [] i d l = absurd (omega arith)
changed_at change (p ∷ ps) zero d l = refl
changed_at change (p ∷ ps) (suc i) d l = ap (λ xs. p ∷ xs) (changed_at change ps i d (omega arith))

length_changed : (change : Plug → Plug) (ps : List Plug) (i : ℕ) → length (changed change i ps) ≡ length ps
length_changed change [] i = refl
length_changed change (p ∷ ps) zero = refl
length_changed change (p ∷ ps) (suc i) = ap suc (length_changed change ps i)

-- a test that does not see the change finds the same place
place_changed : (test : Plug → Bool) (change : Plug → Plug) → ((p : Plug) → test (change p) ≡ test p)
    → (ps : List Plug) (i : ℕ) → position_or_len test (changed change i ps) ≡ position_or_len test ps
place_changed test change same [] i = refl
place_changed test change same (p ∷ ps) zero =
    ap (λ b. cond (not b) (1 + position_or_len test ps) 0) (same p)
place_changed test change same (p ∷ ps) (suc i) =
    ap (λ n. cond (not (test p)) (1 + n) 0) (place_changed test change same ps i)

position_changed : (test : Plug → Bool) (change : Plug → Plug) → ((p : Plug) → test (change p) ≡ test p)
    → (ps : List Plug) (i : ℕ) → position test (changed change i ps) ≡ position test ps
position_changed test change same ps i =
    rw (place_changed test change same ps i, length_changed change ps i) refl

pub meant_changed : (on : Bool) (ps : List Plug) (i : ℕ) (r : List ℕ) → meant (changed (turned on) i ps) r ≡ meant ps r
meant_changed on ps i r =
    ap (λ n. cond (eqb (length r) 0) None (option_or n (aliased (changed (turned on) i ps) r)))
    (position_changed (λ (p : Plug). bytes_eq r p.name) (turned on) (λ p. refl) ps i)
    ∙ ap (λ n. cond (eqb (length r) 0) None (option_or (named ps r) n))
    (position_changed (λ (p : Plug). bytes_eq r p.alias) (turned on) (λ p. refl) ps i)

pub meant_switched : (on : Bool) (places : List ℕ) (ps : List Plug) (r : List ℕ)
    → meant (switched on places ps) r ≡ meant ps r
meant_switched on [] ps r = refl
meant_switched on (i ∷ is) ps r = meant_switched on is (changed (turned on) i ps) r ∙ meant_changed on ps i r

switched-append : (on : Bool) (is js : List ℕ) (ps : List Plug)
    → switched on (is ++ js) ps ≡ switched on js (switched on is ps)
switched-append on [] js ps = refl
switched-append on (i ∷ is) js ps = switched-append on is js (changed (turned on) i ps)

one_place : (o : Option ℕ) (f : List ℕ → Option ℕ) (r : List ℕ) → f r ≡ o
    → filter_map f (r ∷ []) ≡ option_to_list o
one_place None f r e = rw e refl
one_place (Some i) f r e = rw e refl

-- after the plug of one more reference
pub goes_on : (on : Bool) (start old new : List Plug) (rs : List (List ℕ)) (r : List ℕ)
    → old ≡ switched on (filter_map (meant start) rs) start
    → new ≡ switched on (option_to_list (meant old r)) old
    → new ≡ switched on (filter_map (meant start) (rs ++ r ∷ [])) start
goes_on on start old new rs r so_far one =
    let places = filter_map (meant start) rs in
    one
    ∙ ap (λ ps. switched on (option_to_list (meant ps r)) ps) so_far
    ∙ ap (λ o. switched on (option_to_list o) (switched on places start)) (meant_switched on places start r)
    ∙ sym (switched-append on places (option_to_list (meant start r)) start)
    ∙ ap (λ is. switched on (places ++ is) start) (sym (one_place (meant start r) (meant start) r refl))
    ∙ ap (λ is. switched on is start) (sym (filter_map-append (meant start) rs (r ∷ [])))

pub same_places : (f g : List ℕ → Option ℕ) → ((r : List ℕ) → f r ≡ g r) → (rs : List (List ℕ))
    → filter_map f rs ≡ filter_map g rs
same_places f g same [] = refl
same_places f g same (r ∷ rs) = rw (same r, same_places f g same rs) refl

-- plugs that are switched twice are meant by the same references
pub switched_again : (on : Bool) (places : List ℕ) (ps : List Plug) (rs : List (List ℕ))
    → filter_map (meant (switched on places ps)) rs ≡ filter_map (meant ps) rs
switched_again on places ps rs =
    same_places (meant (switched on places ps)) (meant ps) (meant_switched on places ps) rs

found_passes : (p : ℕ → Bool) (xs : List ℕ) (i : ℕ) → find p xs ≡ Some i → p i ≡ true
found_passes p [] i e = cc
found_passes p (x ∷ xs) i e = go (p x) refl e (found_passes p xs i)
  where
    go : (b : Bool) → p x ≡ b → cond b (Some x) (find p xs) ≡ Some i → (find p xs ≡ Some i → p i ≡ true)
        → p i ≡ true
    go true t k later = let same : x ≡ i = cc in ap p (sym same) ∙ t
    go false t k later = later k

-- a plug that fails is there
pub failing_within : (ps : List Plug) (is : List ℕ) (i : ℕ) → find (is_failing ps) is ≡ Some i → i < length ps
failing_within ps is i e = go (slice_get ps i) refl (found_passes (is_failing ps) is i e)
  where
    go : (o : Option Plug) → slice_get ps i ≡ o → fails_still o ≡ true → i < length ps
    go None same t = cc
    go (Some p) same t = slice_get_within ps i p same

-- all off and then all on
pub rebooted : (start off on : List Plug) (rs : List (List ℕ))
    → off ≡ switched false (filter_map (meant start) rs) start → on ≡ switched true (filter_map (meant off) rs) off
    → on ≡ operated Operation.Reboot (filter_map (meant start) rs) start
rebooted start off on rs first second =
    let places = filter_map (meant start) rs in
    second
    ∙ ap (λ ps. switched true (filter_map (meant ps) rs) ps) first
    ∙ ap (λ is. switched true is (switched false places start)) (switched_again false places start rs)

-- a changed plug can be written where the plug could
all_kept : (change : Plug → Plug) → ((p : Plug) → is_plug p ≡ true → is_plug (change p) ≡ true) → (ps : List Plug)
    (i : ℕ) → list_all is_plug ps ≡ true → list_all is_plug (changed change i ps) ≡ true
all_kept change keeps [] i e = e
all_kept change keeps (p ∷ ps) zero e =
    let parts = and_parts (is_plug p) (list_all is_plug ps) e in
    and_from (is_plug (change p)) (list_all is_plug ps) (keeps p parts.0) parts.1
all_kept change keeps (p ∷ ps) (suc i) e =
    let parts = and_parts (is_plug p) (list_all is_plug ps) e in
    and_from (is_plug p) (list_all is_plug (changed change i ps)) parts.0 (all_kept change keeps ps i parts.1)

kept_changed : (change : Plug → Plug) → ((p : Plug) → is_plug p ≡ true → is_plug (change p) ≡ true)
    → (ps : List Plug) (i : ℕ) → IsTrue (is_switch ps) → IsTrue (is_switch (changed change i ps))
kept_changed change keeps ps i e =
    let parts = and_parts (nat_le (length ps) MOST_PLUGS) (list_all is_plug ps) e in
    and_from (nat_le (length (changed change i ps)) MOST_PLUGS) (list_all is_plug (changed change i ps))
    (ap (λ n. nat_le n MOST_PLUGS) (length_changed change ps i) ∙ parts.0) (all_kept change keeps ps i parts.1)

less_is_plug : (p : Plug) → is_plug p ≡ true → is_plug (one_less p) ≡ true
less_is_plug p e =
    let parts = and_parts (is_name p.name && is_alias p.alias) (nat_le p.failures MOST_FAILURES) e in
    let few : p.failures ≤ MOST_FAILURES = leb-true p.failures MOST_FAILURES parts.1 in
    and_from (is_name p.name && is_alias p.alias) (nat_le (p.failures - 1) MOST_FAILURES) parts.0
    (le-leb (p.failures - 1) MOST_FAILURES (omega arith))

pub kept_less : (ps : List Plug) (i : ℕ) → IsTrue (is_switch ps) → IsTrue (is_switch (changed one_less i ps))
kept_less ps i e = kept_changed one_less less_is_plug ps i e

kept_switched : (on : Bool) (is : List ℕ) (ps : List Plug) → IsTrue (is_switch ps)
    → IsTrue (is_switch (switched on is ps))
kept_switched on [] ps e = e
kept_switched on (i ∷ is) ps e =
    kept_switched on is (changed (turned on) i ps) (kept_changed (turned on) (λ p h. h) ps i e)

pub kept_operated : (operation : Operation) (is : List ℕ) (ps : List Plug) → IsTrue (is_switch ps)
    → IsTrue (is_switch (operated operation is ps))
kept_operated Operation.On is ps e = kept_switched true is ps e
kept_operated Operation.Off is ps e = kept_switched false is ps e
kept_operated Operation.Reboot is ps e =
    kept_switched true is (switched false is ps) (kept_switched false is ps e)
