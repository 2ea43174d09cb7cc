-- How many levels stand: one fewer where one is cleared.
use Rattle.std.proofs.Common.{
  ℕ,
  List,
  [],
  ◌∷◌,
  Bool,
  true,
  false,
  ◌≡◌,
  ◌==◌,
  ◌+◌,
  ◌-◌,
  ◌≤◌,
  ◌<◌,
  min,
  ap,
  sym,
  refl,
  subst,
  arith,
  length,
  None,
  Some,
  Option,
  if◌then◌else◌,
}
use Rattle.std.specs.Prelude.{bytes_eq, unwrap_or, cond}
use Rattle.std.specs.List.{list_any}
use Rattle.std.specs.Map.{lookup, remove_entry, set_value}
use Rattle.std.proofs.lemmas.Option.{same_Some}
use Rattle.fnc_journal.specs.declared.entry.LevelTarget.{LevelTarget}
use Rattle.fnc_journal.specs.Levels.{Level, without_level}
use Rattle.fnc_config.specs.Configured.{
  Configured,
  Targets,
  count_levels,
  levels_for,
  levels_of,
  other_levels,
  put_levels,
  without_level_of,
}
use Rattle.fnc_config.proofs.TargetSteps.{clear-absent, none-stand, stand}

-- whether a level of an index is among these
abbrev has : ℕ → List Level → Bool
has index ls = list_any (λ l. index == l.index) ls

-- one or none
abbrev one : Bool → ℕ
one b = if b then 1 else 0

length-without : (index : ℕ) (ls : List Level) → length (without_level index ls) + one (has index ls) ≡ length ls
length-without index [] = omega arith
length-without index (k ∷ ks) = go (index == k.index) refl (length-without index ks)
  where
    go : (b : Bool) → (index == k.index) ≡ b → length (without_level index ks) + one (has index ks) ≡ length ks →
        length (without_level index (k ∷ ks)) + one (has index (k ∷ ks)) ≡ length (k ∷ ks)
    go true q rest = rw q (omega arith)
    go false q rest = rw q (omega (arith, rest))

count-removed : (t : List ℕ) (ts : Targets) →
    count_levels (remove_entry (bytes_eq t) ts) + length (levels_of t ts) ≡ count_levels ts
count-removed t [] = omega arith
count-removed t (e ∷ es) = go (bytes_eq t e.0) (count-removed t es)
  where
    go : (b : Bool) → count_levels (remove_entry (bytes_eq t) es) + length (levels_of t es) ≡ count_levels es →
        count_levels (cond b es (e ∷ remove_entry (bytes_eq t) es))
        + length (unwrap_or (cond b (Some e.1) (lookup (bytes_eq t) es)) []) ≡ count_levels (e ∷ es)
    go true rest = omega arith
    go false rest = omega (arith, rest)

count-written : (t : List ℕ) (ws ls : List Level) (ts : Targets) → lookup (bytes_eq t) ts ≡ Some ls →
    count_levels (set_value (bytes_eq t) ts ws) + length ls ≡ count_levels ts + length ws
count-written t ws ls [] p = absurd cc
count-written t ws ls (e ∷ es) p = go (bytes_eq t e.0) refl (count-written t ws ls es)
  where
    go : (b : Bool) → bytes_eq t e.0 ≡ b →
        (lookup (bytes_eq t) es ≡ Some ls →
        count_levels (set_value (bytes_eq t) es ws) + length ls ≡ count_levels es + length ws) →
        count_levels (cond b ((e.0, ws) ∷ es) (e ∷ set_value (bytes_eq t) es ws)) + length ls
        ≡ count_levels (e ∷ es) + length ws
    go true q rest =
        let here : Some e.1 ≡ Some ls = rw q at p in
        let same : length e.1 ≡ length ls = ap length (same_Some e.1 ls here) in
        omega (arith, same)
    go false q rest = omega (arith, rest (rw q at p))

put-count : (t : List ℕ) (ts : Targets) (ls ws : List Level) (n : ℕ) → lookup (bytes_eq t) ts ≡ Some ls →
    length ws + n ≡ length ls → count_levels (put_levels t ws ts) + n ≡ count_levels ts
put-count t ts ls [] n p q = omega (arith, q, count-removed t ts, ap length (stand t ts ls p))
put-count t ts ls (w ∷ ws) n p q = omega (arith, q, count-written t (w ∷ ws) ls ts p)

count-without : (t : List ℕ) (index : ℕ) (ts : Targets) →
    count_levels (without_level_of t index ts) + one (has index (levels_of t ts)) ≡ count_levels ts
count-without t index ts = go (lookup (bytes_eq t) ts) refl
  where
    go : (o : Option (List Level)) → lookup (bytes_eq t) ts ≡ o →
        count_levels (without_level_of t index ts) + one (has index (levels_of t ts)) ≡ count_levels ts
    go None p =
        let same = ap count_levels (clear-absent t ts index p) in
        let none : one (has index (levels_of t ts)) ≡ 0 = ap (λ ls. one (has index ls)) (none-stand t ts p) in
        omega (arith, same, none)
    go (Some ls) p =
        subst (λ ks. count_levels (put_levels t (without_level index ks) ts) + one (has index ks) ≡ count_levels ts)
        (sym (stand t ts ls p))
        (put-count t ts ls (without_level index ls) (one (has index ls)) p (length-without index ls))

module _ (names patterns others a b all own left : ℕ) (h : Bool) (counted : others + one h ≡ names + patterns)
    (of_names : a ≡ min names 18446744073709551615) (of_patterns : b ≡ min patterns 18446744073709551615)
    (of_all : all ≡ min (a + b) 18446744073709551615) (of_own : own ≡ one h) (of_left : left ≡ all - own) where
  pub room-full : 1024 ≤ left → 1024 ≤ others
  room-full p = go h counted of_own
    where
      go : (x : Bool) → others + one x ≡ names + patterns → own ≡ one x → 1024 ≤ others
      go true c o = omega (arith, c, o, of_names, of_patterns, of_all, of_left, p)
      go false c o = omega (arith, c, o, of_names, of_patterns, of_all, of_left, p)

  pub room-left : left < 1024 → others < 1024
  room-left p = go h counted of_own
    where
      go : (x : Bool) → others + one x ≡ names + patterns → own ≡ one x → others < 1024
      go true c o = omega (arith, c, o, of_names, of_patterns, of_all, of_left, p)
      go false c o = omega (arith, c, o, of_names, of_patterns, of_all, of_left, p)

-- what stands is the level in question and the others
pub others-count : (target : LevelTarget) (index : ℕ) (c : Configured) →
    other_levels target index c + one (list_any (λ l. index == l.index) (levels_for target c))
    ≡ count_levels c.names + count_levels c.patterns
others-count (LevelTarget.Name text) index c =
    let k : count_levels (without_level_of text index c.names) + one (has index (levels_of text c.names))
    ≡ count_levels c.names =
    count-without text index c.names in
    let same : other_levels (LevelTarget.Name text) index c
    ≡ count_levels (without_level_of text index c.names) + count_levels c.patterns = refl in
    omega (arith, k, same)
others-count (LevelTarget.Pattern text) index c =
    let k : count_levels (without_level_of text index c.patterns) + one (has index (levels_of text c.patterns))
    ≡ count_levels c.patterns = count-without text index c.patterns in
    let same : other_levels (LevelTarget.Pattern text) index c
    ≡ count_levels c.names + count_levels (without_level_of text index c.patterns) = refl in
    omega (arith, k, same)
