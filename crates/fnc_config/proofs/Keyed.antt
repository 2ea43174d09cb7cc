-- A table in which each name stands once: what is found in it after a name is put, changed or taken away.
use Rattle.std.proofs.Common.{
  ℕ,
  List,
  [],
  ◌∷◌,
  Bool,
  true,
  false,
  ◌≡◌,
  ap,
  sym,
  ◌∙◌,
  refl,
  subst,
  None,
  Some,
  Option,
  if◌then◌else◌,
  cond,
}
use Rattle.std.specs.Prelude.{bytes_eq}
use Rattle.std.specs.Cmp.Lexicographic.{same_text}
use Rattle.std.specs.List.{AllByRecursion}
use Rattle.std.specs.Map.{lookup, remove_entry, set_value}
use Rattle.std.proofs.lemmas.Cmp.{nat_list_eq_equiv}
use Rattle.std.proofs.lemmas.Map.{lookup-none}
use Rattle.indexmap.specs.IndexMap.{insert_entry}

module _ {V : Type 0} where
  -- none of these has the name
  abbrev pub IsNew : List ℕ → List (List ℕ × V) → Type 0
  IsNew name es = AllByRecursion (λ f. bytes_eq name f.0 ≡ false) es

  -- each name stands once
  abbrev pub IsApart : List (List ℕ × V) → Type 0
  IsApart [] = Unit {0}
  IsApart (e ∷ es) = IsNew e.0 es × IsApart es

  new-removed : (name other : List ℕ) (es : List (List ℕ × V)) → IsNew name es →
      IsNew name (remove_entry (bytes_eq other) es)
  new-removed name other [] h = tt
  new-removed name other (e ∷ es) h = go (bytes_eq other e.0) (new-removed name other es h.1)
    where
      go : (b : Bool) → IsNew name (remove_entry (bytes_eq other) es) →
          IsNew name (cond b es (e ∷ remove_entry (bytes_eq other) es))
      go true rest = h.1
      go false rest = (h.0, rest)

  pub apart-removed : (other : List ℕ) (es : List (List ℕ × V)) → IsApart es →
      IsApart (remove_entry (bytes_eq other) es)
  apart-removed other [] h = tt
  apart-removed other (e ∷ es) h = go (bytes_eq other e.0) (apart-removed other es h.1)
    where
      go : (b : Bool) → IsApart (remove_entry (bytes_eq other) es) →
          IsApart (cond b es (e ∷ remove_entry (bytes_eq other) es))
      go true rest = h.1
      go false rest = (new-removed e.0 other es h.0, rest)

  new-written : (name other : List ℕ) (w : V) (es : List (List ℕ × V)) → IsNew name es →
      IsNew name (set_value (bytes_eq other) es w)
  new-written name other w [] h = tt
  new-written name other w (e ∷ es) h = go (bytes_eq other e.0) (new-written name other w es h.1)
    where
      go : (b : Bool) → IsNew name (set_value (bytes_eq other) es w) →
          IsNew name (cond b ((e.0, w) ∷ es) (e ∷ set_value (bytes_eq other) es w))
      go true rest = h
      go false rest = (h.0, rest)

  pub apart-written : (other : List ℕ) (w : V) (es : List (List ℕ × V)) → IsApart es →
      IsApart (set_value (bytes_eq other) es w)
  apart-written other w [] h = tt
  apart-written other w (e ∷ es) h = go (bytes_eq other e.0) (apart-written other w es h.1)
    where
      go : (b : Bool) → IsApart (set_value (bytes_eq other) es w) →
          IsApart (cond b ((e.0, w) ∷ es) (e ∷ set_value (bytes_eq other) es w))
      go true rest = h
      go false rest = (new-written e.0 other w es h.0, rest)

  new-inserted : (name other : List ℕ) (w : V) (es : List (List ℕ × V)) → bytes_eq name other ≡ false → IsNew name es →
      IsNew name (insert_entry bytes_eq es other w)
  new-inserted name other w [] p h = (p, tt)
  new-inserted name other w (e ∷ es) p h = go (bytes_eq other e.0) (new-inserted name other w es p h.1)
    where
      go : (b : Bool) → IsNew name (insert_entry bytes_eq es other w) →
          IsNew name (cond b ((e.0, w) ∷ es) (e ∷ insert_entry bytes_eq es other w))
      go true rest = h
      go false rest = (h.0, rest)

  pub apart-inserted : (other : List ℕ) (w : V) (es : List (List ℕ × V)) → IsApart es →
      IsApart (insert_entry bytes_eq es other w)
  apart-inserted other w [] h = (tt, tt)
  apart-inserted other w (e ∷ es) h = go (bytes_eq other e.0) refl (apart-inserted other w es h.1)
    where
      go : (b : Bool) → bytes_eq other e.0 ≡ b → IsApart (insert_entry bytes_eq es other w) →
          IsApart (cond b ((e.0, w) ∷ es) (e ∷ insert_entry bytes_eq es other w))
      go true q rest = h
      go false q rest =
          let unlike : bytes_eq e.0 other ≡ false = nat_list_eq_equiv.symm e.0 other ∙ q in
          (new-inserted e.0 other w es unlike h.0, rest)

  -- a name that is that of an entry is none of the others
  absent-later : (name other : List ℕ) (es : List (List ℕ × V)) → bytes_eq name other ≡ true → IsNew other es →
      lookup (bytes_eq name) es ≡ None
  absent-later name other es p h =
      lookup-none (bytes_eq name) es (subst (λ o. IsNew o es) (sym (same_text name other (sym p))) h)

  nothing : {o : Option V} (b : Bool) → o ≡ (if b then o else o)
  nothing true = refl
  nothing false = refl

  pub lookup-removed : (name other : List ℕ) (es : List (List ℕ × V)) → IsApart es →
      lookup (bytes_eq name) (remove_entry (bytes_eq other) es)
      ≡ (if bytes_eq name other then None else lookup (bytes_eq name) es)
  lookup-removed name other [] h = nothing (bytes_eq name other)
  lookup-removed name other (e ∷ es) h =
      go (bytes_eq other e.0) refl (bytes_eq name other) refl (lookup-removed name other es h.1)
    where
      go : (b : Bool) → bytes_eq other e.0 ≡ b → (d : Bool) → bytes_eq name other ≡ d →
          lookup (bytes_eq name) (remove_entry (bytes_eq other) es)
          ≡ (if bytes_eq name other then None else lookup (bytes_eq name) es) →
          lookup (bytes_eq name) (cond b es (e ∷ remove_entry (bytes_eq other) es))
          ≡ (if d then None else lookup (bytes_eq name) (e ∷ es))
      go true q true p rest =
          let same : other ≡ e.0 = same_text other e.0 (sym q) in
          absent-later name e.0 es (subst (λ o. bytes_eq name o ≡ true) same p) h.0
      go true q false p rest =
          let unlike : bytes_eq name e.0 ≡ false =
          subst (λ o. bytes_eq name o ≡ false) (same_text other e.0 (sym q)) p in
          sym (ap (λ b. cond b (Some e.1) (lookup (bytes_eq name) es)) unlike)
      go false q true p rest =
          let unlike : bytes_eq name e.0 ≡ false =
          subst (λ o. bytes_eq o e.0 ≡ false) (sym (same_text name other (sym p))) q in
          ap (λ b. cond b (Some e.1) (lookup (bytes_eq name) (remove_entry (bytes_eq other) es))) unlike
          ∙ rest ∙ ap (λ b. if b then None else lookup (bytes_eq name) es) p
      go false q false p rest =
          ap (cond (bytes_eq name e.0) (Some e.1)) (rest ∙ ap (λ b. if b then None else lookup (bytes_eq name) es) p)

  pub lookup-inserted : (name other : List ℕ) (w : V) (es : List (List ℕ × V)) →
      lookup (bytes_eq name) (insert_entry bytes_eq es other w)
      ≡ (if bytes_eq name other then Some w else lookup (bytes_eq name) es)
  lookup-inserted name other w [] = refl
  lookup-inserted name other w (e ∷ es) =
      go (bytes_eq other e.0) refl (bytes_eq name other) refl (lookup-inserted name other w es)
    where
      go : (b : Bool) → bytes_eq other e.0 ≡ b → (d : Bool) → bytes_eq name other ≡ d →
          lookup (bytes_eq name) (insert_entry bytes_eq es other w)
          ≡ (if bytes_eq name other then Some w else lookup (bytes_eq name) es) →
          lookup (bytes_eq name) (cond b ((e.0, w) ∷ es) (e ∷ insert_entry bytes_eq es other w))
          ≡ (if d then Some w else lookup (bytes_eq name) (e ∷ es))
      go true q true p rest =
          let like : bytes_eq name e.0 ≡ true = subst (λ o. bytes_eq name o ≡ true) (same_text other e.0 (sym q)) p in
          ap (λ b. cond b (Some w) (lookup (bytes_eq name) es)) like
      go true q false p rest =
          let unlike : bytes_eq name e.0 ≡ false =
          subst (λ o. bytes_eq name o ≡ false) (same_text other e.0 (sym q)) p in
          ap (λ b. cond b (Some w) (lookup (bytes_eq name) es)) unlike
          ∙ sym (ap (λ b. cond b (Some e.1) (lookup (bytes_eq name) es)) unlike)
      go false q true p rest =
          let unlike : bytes_eq name e.0 ≡ false =
          subst (λ o. bytes_eq o e.0 ≡ false) (sym (same_text name other (sym p))) q in
          ap (λ b. cond b (Some e.1) (lookup (bytes_eq name) (insert_entry bytes_eq es other w))) unlike
          ∙ rest ∙ ap (λ b. if b then Some w else lookup (bytes_eq name) es) p
      go false q false p rest =
          ap (cond (bytes_eq name e.0) (Some e.1)) (rest ∙ ap (λ b. if b then Some w else lookup (bytes_eq name) es) p)

  -- a name that is not there is not changed
  pub written-absent : (t : List ℕ) (w : V) (es : List (List ℕ × V)) → lookup (bytes_eq t) es ≡ None →
      set_value (bytes_eq t) es w ≡ es
  written-absent t w [] p = refl
  written-absent t w (e ∷ es) p = go (bytes_eq t e.0) refl (written-absent t w es)
    where
      go : (b : Bool) → bytes_eq t e.0 ≡ b → (lookup (bytes_eq t) es ≡ None → set_value (bytes_eq t) es w ≡ es) →
          cond b ((e.0, w) ∷ es) (e ∷ set_value (bytes_eq t) es w) ≡ e ∷ es
      go true q rest = let some : Some e.1 ≡ None = rw q at p in absurd cc
      go false q rest = ap (λ l. e ∷ l) (rest (rw q at p))
