-- Patterns that are kept compiled: each is looked for by the text that it was compiled from.
use Rattle.std.proofs.Common.{ℕ, List, [], ◌∷◌, Bool, true, false, ◌≡◌, sym, ◌∙◌, refl, Some, cond}
use Rattle.std.specs.Prelude.{bytes_eq}
use Rattle.std.specs.Cmp.Lexicographic.{same_text}
use Rattle.std.specs.Map.{lookup, remove_entry}
use Rattle.indexmap.specs.IndexMap.{insert_entry}
use Rattle.fnc_config.specs.Patterns.{AreByText}

pub by-text-inserted : (k v : List ℕ) (es : List (List ℕ × List ℕ)) → k ≡ v → AreByText es →
    AreByText (insert_entry bytes_eq es k v)
by-text-inserted k v [] same all = (same, tt)
by-text-inserted k v (e ∷ es) same all = go (bytes_eq k e.0) refl (by-text-inserted k v es same all.1)
  where
    go : (b : Bool) → bytes_eq k e.0 ≡ b → AreByText (insert_entry bytes_eq es k v) →
        AreByText (cond b ((e.0, v) ∷ es) (e ∷ insert_entry bytes_eq es k v))
    go true q rest = (sym (same_text k e.0 (sym q)) ∙ same, all.1)
    go false q rest = (all.0, rest)

pub by-text-removed : (text : List ℕ) (es : List (List ℕ × List ℕ)) → AreByText es →
    AreByText (remove_entry (bytes_eq text) es)
by-text-removed text [] all = tt
by-text-removed text (e ∷ es) all = go (bytes_eq text e.0) (by-text-removed text es all.1)
  where
    go : (b : Bool) → AreByText (remove_entry (bytes_eq text) es) →
        AreByText (cond b es (e ∷ remove_entry (bytes_eq text) es))
    go true rest = all.1
    go false rest = (all.0, rest)

-- what is found for a text was compiled from it
pub by-text-found : (text found : List ℕ) (es : List (List ℕ × List ℕ)) → lookup (bytes_eq text) es ≡ Some found →
    AreByText es → found ≡ text
by-text-found text found [] p all = cc
by-text-found text found (e ∷ es) p all = go (bytes_eq text e.0) refl p (λ q. by-text-found text found es q all.1)
  where
    go : (b : Bool) → bytes_eq text e.0 ≡ b → cond b (Some e.1) (lookup (bytes_eq text) es) ≡ Some found →
        (lookup (bytes_eq text) es ≡ Some found → found ≡ text) → found ≡ text
    go true q p rest =
        let same : e.1 ≡ found = cc in
        sym (same_text text e.0 (sym q) ∙ all.0 ∙ same)
    go false q p rest = rest p
