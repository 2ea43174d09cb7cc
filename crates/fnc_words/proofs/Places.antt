-- Where the arguments of a command stand, whose ids are distinct.
use Rattle.std.proofs.Common.{ℕ, List, [], ◌∷◌, ◌≡◌, ◌<◌, ◌∙◌, ◌&&◌, true, false, not, refl, sym, ap, length, zero, suc}
use Rattle.std.proofs.Common.{arith, codes, inl, inr}
use Rattle.std.specs.List.{All, list_any, slice_index_or}
use Rattle.std.specs.Str.{bytes_eq}
use Rattle.std.proofs.lemmas.Bool.{and_parts, not-true}
use Rattle.std.proofs.lemmas.List.Elements.{All-get_or}
use Rattle.std.proofs.lemmas.List.Folds.{list_any_at}
use Rattle.std.proofs.lemmas.Slice.Eq.{bytes_eq-Decides}
use Rattle.clap.specs.Built.{IsAuto}
use Rattle.clap.specs.Walk.{Rule, Text, rule_of}
use Rattle.clap.specs.declared.builder.arg.Arg.{Arg}
use Rattle.fnc_words.specs.Making.{are_distinct, is_own}

-- what stands at a place below the length
pub at-place : {X : Type 0} (xs : List X) (k : ℕ) → k < length xs → (x : X) × (slice_index_or xs k x ≡ x)
at-place [] k low = absurd (omega (arith, low))
at-place (x ∷ xs) zero low = (x, refl)
at-place (x ∷ xs) (suc k) low = at-place xs k (omega (arith, low))

-- what one of distinct arguments has of its own
pub record IsOwn (r : Rule) : Type 0 where
  pub own : is_own r.id ≡ true
  pub exact_case : r.ignore_case ≡ false

first-own : (r : Rule) (rs : List Rule) → are_distinct (r ∷ rs) ≡ true → IsOwn r
first-own r rs h =
    let third = not (list_any (λ s. bytes_eq s.id r.id) rs) && are_distinct rs in
    let all = and_parts (is_own r.id) (not r.ignore_case && third) h in
    record { own = all.0; exact_case = not-true r.ignore_case (and_parts (not r.ignore_case) third all.1).0 }

from-third : (r : Rule) (rs : List Rule) → are_distinct (r ∷ rs) ≡ true →
    (not (list_any (λ s. bytes_eq s.id r.id) rs) && are_distinct rs) ≡ true
from-third r rs h =
    let first = not (list_any (λ s. bytes_eq s.id r.id) rs) && are_distinct rs in
    (and_parts (not r.ignore_case) first (and_parts (is_own r.id) (not r.ignore_case && first) h).1).1

first-alone : (r : Rule) (rs : List Rule) → are_distinct (r ∷ rs) ≡ true → list_any (λ s. bytes_eq s.id r.id) rs ≡ false
first-alone r rs h =
    let among = list_any (λ s. bytes_eq s.id r.id) rs in
    not-true among (and_parts (not among) (are_distinct rs) (from-third r rs h)).0

rest-distinct : (r : Rule) (rs : List Rule) → are_distinct (r ∷ rs) ≡ true → are_distinct rs ≡ true
rest-distinct r rs h = (and_parts _ (are_distinct rs) (from-third r rs h)).1

pub own-at : (rs : List Rule) (k : ℕ) (d : Rule) → are_distinct rs ≡ true → k < length rs →
    IsOwn (slice_index_or rs k d)
own-at [] k d h low = absurd (omega (arith, low))
own-at (r ∷ rs) zero d h low = first-own r rs h
own-at (r ∷ rs) (suc k) d h low = own-at rs k d (rest-distinct r rs h) (omega (arith, low))

same-id : (x y : Text) → bytes_eq x y ≡ true → bytes_eq y x ≡ true
same-id x y e = (bytes_eq-Decides y x).1 (sym ((bytes_eq-Decides x y).0 e))

not-among : (r : Rule) (rs : List Rule) (k : ℕ) (d : Rule) → are_distinct (r ∷ rs) ≡ true → k < length rs →
    bytes_eq (slice_index_or rs k d).id r.id ≡ true → ⊥
not-among r rs k d h low same =
    let among = list_any_at (λ (s : Rule). bytes_eq s.id r.id) rs k d low same in
    let bad : true ≡ false = sym among ∙ first-alone r rs h in
    cc

-- an id stands at one place alone
pub alone-at : (rs : List Rule) (j k : ℕ) (d e : Rule) → are_distinct rs ≡ true → j < length rs → k < length rs →
    bytes_eq (slice_index_or rs j d).id (slice_index_or rs k e).id ≡ true → j ≡ k
alone-at [] j k d e h low high same = absurd (omega (arith, low))
alone-at (r ∷ rs) zero zero d e h low high same = refl
alone-at (r ∷ rs) zero (suc k) d e h low high same =
    absurd (not-among r rs k e h (omega (arith, high)) (same-id r.id (slice_index_or rs k e).id same))
alone-at (r ∷ rs) (suc j) zero d e h low high same = absurd (not-among r rs j d h (omega (arith, low)) same)
alone-at (r ∷ rs) (suc j) (suc k) d e h low high same =
    ap suc (alone-at rs j k d e (rest-distinct r rs h) (omega (arith, low)) (omega (arith, high)) same)

-- an id of its own is none that `clap` adds
own-not-empty : (id : Text) → is_own id ≡ true → id ≡ [] → ⊥
own-not-empty id own is =
    let bad : false ≡ true = ap is_own (sym is) ∙ own in
    cc

own-not : (id : Text) → is_own id ≡ true → (id ≡ codes "help") → ⊥
own-not id own is =
    let bad : false ≡ true = ap is_own (sym is) ∙ own in
    cc

own-nor : (id : Text) → is_own id ≡ true → (id ≡ codes "version") → ⊥
own-nor id own is =
    let bad : false ≡ true = ap is_own (sym is) ∙ own in
    cc

pub own-named : (a : Arg) → IsOwn (rule_of a) → a.id.now ≡ [] → ⊥
own-named a is = own-not-empty a.id.now is.own

pub own-added : (a : Arg) → IsOwn (rule_of a) → IsAuto a → ⊥
own-added a is (inl help) = own-not a.id.now is.own help
own-added a is (inr version) = own-nor a.id.now is.own version

-- what holds of all holds of the first and of the second
pub first-of : {X : Type 0} (P : X → Type 0) (x : X) (xs : List X) → All P (x ∷ xs) → P x
first-of P x xs all = All-get_or P (x ∷ xs) 0 x (omega arith) all

pub second-of : {X : Type 0} (P : X → Type 0) (x y : X) (xs : List X) → All P (x ∷ y ∷ xs) → P y
second-of P x y xs all = All-get_or P (x ∷ y ∷ xs) 1 x (omega arith) all
