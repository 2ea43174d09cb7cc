-- A table by strings, as a list by their texts: what is found, taken away and added is the same.
use Rattle.std.proofs.Common.{
  ℕ,
  List,
  [],
  ◌∷◌,
  ◌++◌,
  Bool,
  true,
  false,
  ◌≡◌,
  map,
  ap,
  ◌∙◌,
  refl,
  None,
  Some,
  Option,
  length,
  ◌+◌,
  suc,
  arith,
  is_some,
  if◌then◌else◌,
}
use Rattle.std.specs.Prelude.{bytes_eq, string_bytes, cond, String}
use Rattle.std.specs.Map.{lookup, remove_entry, set_value, values_of}
use Rattle.std.specs.String.{string_eq}
use Rattle.indexmap.specs.IndexMap.{IndexMap, insert_entry, get}
use Rattle.indexmap.proofs.CallerLemmas.{insert_entry-new}

module _ {Y V : Type 0} where
  -- by their texts
  abbrev pub shown : List (String Y × V) → List (List ℕ × V)
  shown es = map (λ e. (string_bytes e.0, e.1)) es

  pub found : (name : List ℕ) (es : List (String Y × V)) →
      lookup (λ k. bytes_eq name (string_bytes k)) es ≡ lookup (bytes_eq name) (shown es)
  found name [] = refl
  found name (e ∷ es) = ap (cond (bytes_eq name (string_bytes e.0)) (Some e.1)) (found name es)

  gone-by : (b : Bool) (e : String Y × V) (xs ys : List (String Y × V)) (zs : List (List ℕ × V)) →
      shown ys ≡ zs → shown (cond b xs (e ∷ ys)) ≡ cond b (shown xs) ((string_bytes e.0, e.1) ∷ zs)
  gone-by true e xs ys zs p = refl
  gone-by false e xs ys zs p = ap (λ l. (string_bytes e.0, e.1) ∷ l) p

  pub gone : (name : List ℕ) (es : List (String Y × V)) →
      shown (remove_entry (λ k. bytes_eq name (string_bytes k)) es) ≡ remove_entry (bytes_eq name) (shown es)
  gone name [] = refl
  gone name (e ∷ es) = gone-by (bytes_eq name (string_bytes e.0)) e es _ _ (gone name es)

  written-by : (b : Bool) (e : String Y × V) (w : V) (xs ys : List (String Y × V)) (zs : List (List ℕ × V)) →
      shown ys ≡ zs → shown (cond b ((e.0, w) ∷ xs) (e ∷ ys))
      ≡ cond b ((string_bytes e.0, w) ∷ shown xs) ((string_bytes e.0, e.1) ∷ zs)
  written-by true e w xs ys zs p = refl
  written-by false e w xs ys zs p = ap (λ l. (string_bytes e.0, e.1) ∷ l) p

  pub written : (name : List ℕ) (es : List (String Y × V)) (w : V) →
      shown (set_value (λ k. bytes_eq name (string_bytes k)) es w) ≡ set_value (bytes_eq name) (shown es) w
  written name [] w = refl
  written name (e ∷ es) w = written-by (bytes_eq name (string_bytes e.0)) e w es _ _ (written name es w)

  pub inserted : (es : List (String Y × V)) (k : String Y) (v : V) →
      shown (insert_entry string_eq es k v) ≡ insert_entry bytes_eq (shown es) (string_bytes k) v
  inserted [] k v = refl
  inserted (e ∷ es) k v = written-by (string_eq k e.0) e v es _ _ (inserted es k v)

  pub last : (es : List (String Y × V)) (e : String Y × V) → shown (es ++ e ∷ [])
      ≡ shown es ++ (string_bytes e.0, e.1) ∷ []
  last [] e = refl
  last (d ∷ es) e = ap (λ l. (string_bytes d.0, d.1) ∷ l) (last es e)

module _ {Y V S : Type 0} where
  pub added : (m : IndexMap (String Y) V S) (k : String Y) (v : V) → get string_eq m k ≡ None →
      shown (insert_entry string_eq m.entries k v) ≡ shown m.entries ++ (string_bytes k, v) ∷ []
  added m k v p = ap shown (insert_entry-new string_eq m k v p) ∙ last m.entries (k, v)

module _ {V : Type 0} where
  gone-length : (b : Bool) (e : List ℕ × V) (es ys : List (List ℕ × V)) (o : Option V) →
      length ys + (if is_some o then 1 else 0) ≡ length es →
      length (cond b es (e ∷ ys)) + (if is_some (cond b (Some e.1) o) then 1 else 0) ≡ length (e ∷ es)
  gone-length true e es ys o p = omega arith
  gone-length false e es ys o p = omega (arith, p)

  -- taking a name away leaves all others
  pub length-gone : (name : List ℕ) (es : List (List ℕ × V)) →
      length (remove_entry (bytes_eq name) es) + (if is_some (lookup (bytes_eq name) es) then 1 else 0) ≡ length es
  length-gone name [] = refl
  length-gone name (e ∷ es) = gone-length (bytes_eq name e.0) e es _ _ (length-gone name es)

  pub others-of-present : (name : List ℕ) (es : List (List ℕ × V)) → is_some (lookup (bytes_eq name) es) ≡ true →
      length (remove_entry (bytes_eq name) es) + 1 ≡ length es
  others-of-present name es p = rw p at (length-gone name es)

  pub others-of-absent : (name : List ℕ) (es : List (List ℕ × V)) → is_some (lookup (bytes_eq name) es) ≡ false →
      length (remove_entry (bytes_eq name) es) + 0 ≡ length es
  others-of-absent name es p = rw p at (length-gone name es)

pub length-shown : {Y V : Type 0} (es : List (String Y × V)) → length (shown es) ≡ length es
length-shown [] = refl
length-shown (e ∷ es) = ap suc (length-shown es)

pub values-shown : {Y V : Type 0} (es : List (String Y × V)) → values_of es ≡ map (λ e. e.1) (shown es)
values-shown [] = refl
values-shown (e ∷ es) = ap (λ vs. e.1 ∷ vs) (values-shown es)
