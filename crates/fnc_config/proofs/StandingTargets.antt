-- The levels that stand in the configuration of a journal are those of the journal.
use Rattle.std.proofs.Common.{
  ℕ,
  List,
  [],
  ◌∷◌,
  Bool,
  true,
  false,
  ◌≡◌,
  ap,
  sym,
  ◌∙◌,
  refl,
  None,
  Some,
  Option,
  if◌then◌else◌,
  length,
}
use Rattle.std.specs.Prelude.{bytes_eq, unwrap_or}
use Rattle.std.specs.Cmp.Lexicographic.{same_text}
use Rattle.std.specs.Map.{lookup}
use Rattle.fnc_journal.specs.declared.entry.LevelTarget.{LevelTarget}
use Rattle.fnc_journal.specs.declared.event.Event.{Event}
use Rattle.fnc_journal.specs.History.{History}
use Rattle.fnc_journal.specs.Levels.{Level, levels, levels_after, with_level, without_level}
use Rattle.fnc_config.specs.Configured.{
  Targets,
  configured,
  configured_by,
  levels_for,
  levels_of,
  put_levels,
  with_level_of,
  without_level_of,
}
use Rattle.fnc_config.proofs.Keyed.{
  IsApart,
  apart-inserted,
  apart-removed,
  apart-written,
  lookup-inserted,
  lookup-removed,
}
use Rattle.fnc_config.proofs.TargetSteps.{clear-absent, present, stand}

apart-put : (t : List ℕ) (ls : List Level) (ts : Targets) → IsApart ts → IsApart (put_levels t ls ts)
apart-put t [] ts h = apart-removed t ts h
apart-put t (l ∷ ls) ts h = apart-written t (l ∷ ls) ts h

-- each target stands once
pub apart : (h : History) → IsApart (configured h).names × IsApart (configured h).patterns
apart [] = (tt, tt)
apart (e ∷ before) = go e.event (apart before)
  where
    go : (event : Event) → IsApart (configured before).names × IsApart (configured before).patterns →
        IsApart (configured_by (length before) event (configured before)).names
        × IsApart (configured_by (length before) event (configured before)).patterns
    go (Event.Level set) h = by set.target
      where
        by : (t : LevelTarget) →
            IsApart (configured_by (length before) (Event.Level (record set { target = t })) (configured before)).names
            × IsApart (configured_by (length before) (Event.Level (record set {
              target =
                  t;
            })) (configured before)).patterns
        by (LevelTarget.Name text) = (apart-inserted text _ (configured before).names h.0, h.1)
        by (LevelTarget.Pattern text) = (h.0, apart-inserted text _ (configured before).patterns h.1)
    go (Event.LevelGone cleared) h = by cleared.target
      where
        by : (t : LevelTarget) →
            IsApart (configured_by (length before) (Event.LevelGone (record cleared {
              target =
                  t;
            })) (configured before)).names
            × IsApart
            (configured_by (length before) (Event.LevelGone (record cleared {
              target =
                  t;
            })) (configured before)).patterns
        by (LevelTarget.Name text) = (apart-put text _ (configured before).names h.0, h.1)
        by (LevelTarget.Pattern text) = (h.0, apart-put text _ (configured before).patterns h.1)
    go _ h = h

-- the levels of a target after one more of another, or of the same
pub levels-put : (name other : List ℕ) (l : Level) (ts : Targets) →
    levels_of name (with_level_of other l ts)
    ≡ (if bytes_eq name other then with_level l (levels_of name ts) else levels_of name ts)
levels-put name other l ts =
    ap (λ o. unwrap_or o []) (lookup-inserted name other (with_level l (levels_of other ts)) ts)
    ∙ go (bytes_eq name other) refl
  where
    go : (b : Bool) → bytes_eq name other ≡ b →
        unwrap_or (if b then Some (with_level l (levels_of other ts)) else lookup (bytes_eq name) ts) []
        ≡ (if b then with_level l (levels_of name ts) else levels_of name ts)
    go true p = ap (λ o. with_level l (levels_of o ts)) (sym (same_text name other (sym p)))
    go false p = refl

put-some : (name other : List ℕ) (ws ls : List Level) (ts : Targets) → IsApart ts → lookup (bytes_eq other) ts
    ≡ Some ls →
    levels_of name (put_levels other ws ts) ≡ (if bytes_eq name other then ws else levels_of name ts)
put-some name other [] ls ts h p = ap (λ o. unwrap_or o []) (lookup-removed name other ts h) ∙ go (bytes_eq name other)
  where
    go : (b : Bool) → unwrap_or (if b then None else lookup (bytes_eq name) ts) []
        ≡ (if b then [] else levels_of name ts)
    go true = refl
    go false = refl
put-some name other (w ∷ ws) ls ts h p =
    ap (levels_of name) (sym (present other (w ∷ ws) ts ls p))
    ∙ ap (λ o. unwrap_or o []) (lookup-inserted name other (w ∷ ws) ts) ∙ go (bytes_eq name other)
  where
    go : (b : Bool) → unwrap_or (if b then Some (w ∷ ws) else lookup (bytes_eq name) ts) []
        ≡ (if b then w ∷ ws else levels_of name ts)
    go true = refl
    go false = refl

-- and after one fewer
pub levels-cleared : (name other : List ℕ) (index : ℕ) (ts : Targets) → IsApart ts →
    levels_of name (without_level_of other index ts)
    ≡ (if bytes_eq name other then without_level index (levels_of name ts) else levels_of name ts)
levels-cleared name other index ts h = go (lookup (bytes_eq other) ts) refl
  where
    alike : (b : Bool) → bytes_eq name other ≡ b → (ks : List Level) → levels_of other ts ≡ ks →
        (if b then without_level index ks else levels_of name ts)
        ≡ (if b then without_level index (levels_of name ts) else levels_of name ts)
    alike true p ks q =
        ap (without_level index) (sym q ∙ ap (λ o. levels_of o ts) (sym (same_text name other (sym p))))
    alike false p ks q = refl

    none : (b : Bool) → bytes_eq name other ≡ b → levels_of other ts ≡ [] →
        levels_of name ts ≡ (if b then without_level index (levels_of name ts) else levels_of name ts)
    none true p q =
        let empty : levels_of name ts ≡ [] = ap (λ o. levels_of o ts) (same_text name other (sym p)) ∙ q in
        empty ∙ sym (ap (without_level index) empty)
    none false p q = refl

    go : (o : Option (List Level)) → lookup (bytes_eq other) ts ≡ o →
        levels_of name (without_level_of other index ts)
        ≡ (if bytes_eq name other then without_level index (levels_of name ts) else levels_of name ts)
    go None p =
        ap (levels_of name) (sym (clear-absent other ts index p))
        ∙ none (bytes_eq name other) refl (ap (λ o. unwrap_or o []) p)
    go (Some ls) p =
        ap (λ ks. levels_of name (put_levels other (without_level index ks) ts)) (stand other ts ls p)
        ∙ put-some name other (without_level index ls) ls ts h p
        ∙ alike (bytes_eq name other) refl ls (stand other ts ls p)

-- the levels that stand are those of the journal
pub levels-are : (target : LevelTarget) (h : History) → levels_for target (configured h) ≡ levels target h
levels-are (LevelTarget.Name name) [] = refl
levels-are (LevelTarget.Pattern name) [] = refl
levels-are (LevelTarget.Name name) (e ∷ before) = go e.event (levels-are (LevelTarget.Name name) before)
  where
    go : (event : Event) → levels_of name (configured before).names ≡ levels (LevelTarget.Name name) before →
        levels_of name (configured_by (length before) event (configured before)).names
        ≡ levels_after (LevelTarget.Name name) (length before) event (levels (LevelTarget.Name name) before)
    go (Event.Level set) same = by set.target
      where
        by : (t : LevelTarget) →
            levels_of name (configured_by (length before) (Event.Level (record set {
              target =
                  t;
            })) (configured before)).names
            ≡ levels_after (LevelTarget.Name name) (length before) (Event.Level (record set { target = t }))
            (levels (LevelTarget.Name name) before)
        by (LevelTarget.Name text) =
            levels-put name text _ (configured before).names
            ∙ ap (λ ls. if bytes_eq name text
            then with_level (record { at = length before; index = set.index; devices = set.devices }) ls else ls) same
        by (LevelTarget.Pattern text) = same
    go (Event.LevelGone cleared) same = by cleared.target
      where
        by : (t : LevelTarget) →
            levels_of name
            (configured_by (length before) (Event.LevelGone (record cleared { target = t })) (configured before)).names
            ≡ levels_after (LevelTarget.Name name) (length before) (Event.LevelGone (record cleared { target = t }))
            (levels (LevelTarget.Name name) before)
        by (LevelTarget.Name text) =
            levels-cleared name text cleared.index (configured before).names (apart before).0
            ∙ ap (λ ls. if bytes_eq name text then without_level cleared.index ls else ls) same
        by (LevelTarget.Pattern text) = same
    go _ same = same
levels-are (LevelTarget.Pattern name) (e ∷ before) = go e.event (levels-are (LevelTarget.Pattern name) before)
  where
    go : (event : Event) → levels_of name (configured before).patterns ≡ levels (LevelTarget.Pattern name) before →
        levels_of name (configured_by (length before) event (configured before)).patterns
        ≡ levels_after (LevelTarget.Pattern name) (length before) event (levels (LevelTarget.Pattern name) before)
    go (Event.Level set) same = by set.target
      where
        by : (t : LevelTarget) →
            levels_of name (configured_by (length before) (Event.Level (record set {
              target =
                  t;
            })) (configured before)).patterns
            ≡ levels_after (LevelTarget.Pattern name) (length before) (Event.Level (record set { target = t }))
            (levels (LevelTarget.Pattern name) before)
        by (LevelTarget.Name text) = same
        by (LevelTarget.Pattern text) =
            levels-put name text _ (configured before).patterns
            ∙ ap (λ ls. if bytes_eq name text
            then with_level (record { at = length before; index = set.index; devices = set.devices }) ls else ls) same
    go (Event.LevelGone cleared) same = by cleared.target
      where
        by : (t : LevelTarget) →
            levels_of name
            (configured_by (length before) (Event.LevelGone (record cleared {
              target =
                  t;
            })) (configured before)).patterns
            ≡ levels_after (LevelTarget.Pattern name) (length before) (Event.LevelGone (record cleared { target = t }))
            (levels (LevelTarget.Pattern name) before)
        by (LevelTarget.Name text) = same
        by (LevelTarget.Pattern text) =
            levels-cleared name text cleared.index (configured before).patterns (apart before).1
            ∙ ap (λ ls. if bytes_eq name text then without_level cleared.index ls else ls) same
    go _ same = same
