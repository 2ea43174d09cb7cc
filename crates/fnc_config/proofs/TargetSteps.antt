-- The levels of one target among those of all: one more, or one less.
use Rattle.std.proofs.Common.{
  ℕ,
  List,
  [],
  ◌∷◌,
  Bool,
  true,
  false,
  ◌≡◌,
  ◌==◌,
  ◌+◌,
  ap,
  sym,
  ◌∙◌,
  refl,
  length,
  arith,
  true≢false,
  None,
  Some,
  Result,
  Ok,
  Err,
  OnErr,
}
use Rattle.std.specs.Prelude.{String, bytes_eq, unwrap_or}
use Rattle.std.specs.Map.{lookup, remove_entry, set_value, values_of}
use Rattle.std.proofs.lemmas.Bool.{eqb-true}
use Rattle.indexmap.specs.IndexMap.{insert_entry}
use Rattle.fnc_journal.specs.Levels.{Level, with_level, without_level}
use Rattle.fnc_config.specs.Configured.{Targets, count_levels, levels_of, put_levels, with_level_of, without_level_of}
use Rattle.fnc_config.proofs.Shown.{shown}

-- what holds always holds on a refusal
pub always : {T E : Type 0} (r : Result T E) {P : Type 0} → P → OnErr r P
always (Ok x) p = tt
always (Err e) p = p

module _ {V : Type 0} (t : List ℕ) (w : V) where
  pub present : (es : List (List ℕ × V)) (v : V) → lookup (bytes_eq t) es ≡ Some v →
      insert_entry bytes_eq es t w ≡ set_value (bytes_eq t) es w
  present [] v p = absurd cc
  present (e ∷ es) v p = go (bytes_eq t e.0) refl (present es v)
    where
      go : (b : Bool) → bytes_eq t e.0 ≡ b
          → (lookup (bytes_eq t) es ≡ Some v → insert_entry bytes_eq es t w ≡ set_value (bytes_eq t) es w)
          → insert_entry bytes_eq (e ∷ es) t w ≡ set_value (bytes_eq t) (e ∷ es) w
      go true q rest = rw q refl
      go false q rest = rw q (ap (λ l. e ∷ l) (rest (rw q at p)))

  pub removed-written : (es : List (List ℕ × V)) →
      remove_entry (bytes_eq t) (set_value (bytes_eq t) es w) ≡ remove_entry (bytes_eq t) es
  removed-written [] = refl
  removed-written (e ∷ es) = go (bytes_eq t e.0) refl (removed-written es)
    where
      go : (b : Bool) → bytes_eq t e.0 ≡ b
          → remove_entry (bytes_eq t) (set_value (bytes_eq t) es w) ≡ remove_entry (bytes_eq t) es
          → remove_entry (bytes_eq t) (set_value (bytes_eq t) (e ∷ es) w) ≡ remove_entry (bytes_eq t) (e ∷ es)
      go true q rest = rw q (rw q refl)
      go false q rest = rw q (rw q (ap (λ l. e ∷ l) rest))

pub absent : {V : Type 0} (t : List ℕ) (es : List (List ℕ × V)) → lookup (bytes_eq t) es ≡ None →
    remove_entry (bytes_eq t) es ≡ es
absent t [] p = refl
absent t (e ∷ es) p = go (bytes_eq t e.0) refl (absent t es)
  where
    go : (b : Bool) → bytes_eq t e.0 ≡ b → (lookup (bytes_eq t) es ≡ None → remove_entry (bytes_eq t) es ≡ es)
        → remove_entry (bytes_eq t) (e ∷ es) ≡ e ∷ es
    go true q rest = let some : Some e.1 ≡ None = rw q at p in absurd cc
    go false q rest = rw q (ap (λ l. e ∷ l) (rest (rw q at p)))

-- the levels of a target that stands
pub stand : (t : List ℕ) (ts : Targets) (ls : List Level) → lookup (bytes_eq t) ts ≡ Some ls → levels_of t ts ≡ ls
stand t ts ls p = ap (λ o. unwrap_or o []) p

pub none-stand : (t : List ℕ) (ts : Targets) → lookup (bytes_eq t) ts ≡ None → levels_of t ts ≡ []
none-stand t ts p = ap (λ o. unwrap_or o []) p

pub put-present : (t : List ℕ) (ts : Targets) (l : Level) (ls : List Level) → lookup (bytes_eq t) ts ≡ Some ls →
    set_value (bytes_eq t) ts (with_level l ls) ≡ with_level_of t l ts
put-present t ts l ls p =
    sym (present t (with_level l ls) ts ls p)
    ∙ ap (λ ks. insert_entry bytes_eq ts t (with_level l ks)) (sym (stand t ts ls p))

pub put-absent : (t : List ℕ) (ts : Targets) (l : Level) → lookup (bytes_eq t) ts ≡ None →
    insert_entry bytes_eq ts t (with_level l []) ≡ with_level_of t l ts
put-absent t ts l p = ap (λ ks. insert_entry bytes_eq ts t (with_level l ks)) (sym (none-stand t ts p))

pub clear-absent : (t : List ℕ) (ts : Targets) (index : ℕ) → lookup (bytes_eq t) ts ≡ None →
    ts ≡ without_level_of t index ts
clear-absent t ts index p =
    sym (absent t ts p) ∙ ap (λ ks. put_levels t (without_level index ks) ts) (sym (none-stand t ts p))

no-levels : (t : List ℕ) (ts : Targets) (ks : List Level) → true ≡ (length ks == 0) → remove_entry (bytes_eq t) ts
    ≡ put_levels t ks ts
no-levels t ts [] p = refl
no-levels t ts (k ∷ ks) p = let none : length (k ∷ ks) ≡ 0 = eqb-true _ _ (sym p) in let no : ⊥ =
    omega (arith, none) in absurd no

some-levels : (t : List ℕ) (ts : Targets) (ks : List Level) → false ≡ (length ks == 0) →
    set_value (bytes_eq t) ts ks ≡ put_levels t ks ts
some-levels t ts [] p = absurd (true≢false (sym p))
some-levels t ts (k ∷ ks) p = refl

module _ (t : List ℕ) (ts : Targets) (index : ℕ) (ls : List Level) (p : lookup (bytes_eq t) ts ≡ Some ls) where
  pub clear-last : true ≡ (length (without_level index ls) == 0) →
      remove_entry (bytes_eq t) (set_value (bytes_eq t) ts (without_level index ls)) ≡ without_level_of t index ts
  clear-last q = removed-written t (without_level index ls) ts
      ∙ no-levels t ts (without_level index ls) q
      ∙ ap (λ ks. put_levels t (without_level index ks) ts) (sym (stand t ts ls p))

  pub clear-some : false ≡ (length (without_level index ls) == 0) →
      set_value (bytes_eq t) ts (without_level index ls) ≡ without_level_of t index ts
  clear-some q = some-levels t ts (without_level index ls) q
      ∙ ap (λ ks. put_levels t (without_level index ks) ts) (sym (stand t ts ls p))

-- how many levels these lists have
abbrev pub lengths : List (List Level) → ℕ
lengths [] = 0
lengths (ls ∷ rest) = length ls + lengths rest

pub count-shown : {Y : Type 0} (es : List (String Y × List Level)) → count_levels (shown es) ≡ lengths (values_of es)
count-shown [] = refl
count-shown (e ∷ es) = ap (λ n. length e.1 + n) (count-shown es)
