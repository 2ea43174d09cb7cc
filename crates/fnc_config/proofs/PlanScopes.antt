-- The levels of a scope are those that stand for it: the scope of a pattern is the oldest entry of its levels, which
-- names the pattern.
use Rattle.std.proofs.Common.{
  ℕ,
  List,
  [],
  ◌∷◌,
  Bool,
  true,
  false,
  ◌≡◌,
  ◌<◌,
  ◌≤◌,
  ◌==◌,
  ◌&&◌,
  ap,
  sym,
  ◌∙◌,
  refl,
  subst,
  arith,
  length,
  map,
  min,
  nat_le,
  nat_lt,
  not,
  None,
  Some,
  Option,
  cond,
  ne_eqb,
}
use Rattle.std.specs.Prelude.{bytes_eq, option_and_then, option_map}
use Rattle.std.specs.Cmp.Lexicographic.{same_text}
use Rattle.std.specs.List.{AllByRecursion}
use Rattle.std.proofs.lemmas.Bool.{eq-eqb, leb-false, leb-true}
use Rattle.fnc_journal.specs.declared.entry.Entry.{Entry}
use Rattle.fnc_journal.specs.declared.entry.LevelTarget.{LevelTarget}
use Rattle.fnc_journal.specs.declared.entry.Scope.{Scope}
use Rattle.fnc_journal.specs.declared.event.Event.{Event}
use Rattle.fnc_journal.specs.Found.{entry_at}
use Rattle.fnc_journal.specs.History.{History}
use Rattle.fnc_journal.specs.Lawful.{Lawful}
use Rattle.fnc_journal.specs.Levels.{
  Level,
  is_in_place,
  levels,
  levels_after,
  oldest,
  pattern_at,
  pattern_here,
  pattern_levels,
  scoped,
  with_level,
  without_level,
}
use Rattle.fnc_journal.specs.Missing.{is_number, least_of}
use Rattle.fnc_journal.specs.Plan.{plan_level, reg_of}
use Rattle.fnc_journal.specs.Registered.{current}
use Rattle.fnc_journal.proofs.Each.{each-map}
use Rattle.fnc_config.specs.Configured.{configured}
use Rattle.fnc_config.specs.Planning.{levels_at, places_in, plan_level_in, scoped_in}
use Rattle.fnc_config.specs.Scopes.{IsScopeOf}
use Rattle.fnc_config.proofs.Configurations.{numbers-current}
use Rattle.fnc_config.proofs.StandingTargets.{levels-are}

-- the levels of a scope
pub scoped-is : (scope : Scope) (target : List ℕ) (h : History) →
    scoped_in scope target h (configured h) ≡ scoped scope target h
scoped-is Scope.Nothing target h = refl
scoped-is Scope.Name target h = levels-are (LevelTarget.Name target) h
scoped-is (Scope.Pattern n) target h = go (pattern_at n h)
  where
    go : (o : Option (List ℕ)) → levels_at o (configured h)
        ≡ elim o [ None ↦ [] | Some text ↦ levels (LevelTarget.Pattern text) h ]
    go None = refl
    go (Some text) = levels-are (LevelTarget.Pattern text) h

-- the levels of a plan
module _ (h : History) (l : Lawful h) where
  places-are : (names : List (List ℕ)) →
      places_in (configured h).devices names ≡ map (λ name. option_map reg_of (current name h)) names
  places-are [] = refl
  places-are (name ∷ names) =
      ap (λ o. option_map reg_of o ∷ places_in (configured h).devices names) (numbers-current name h l)
      ∙ ap (λ rest. option_map reg_of (current name h) ∷ rest) (places-are names)

  pub planned-are : (ls : List Level) → map (plan_level_in (configured h).devices) ls ≡ map (plan_level h) ls
  planned-are [] = refl
  planned-are (k ∷ ks) =
      ap (λ ps. record { index = k.index; devices = ps } ∷ map (plan_level_in (configured h).devices) ks)
      (places-are k.devices)
      ∙ ap (λ rest. plan_level h k ∷ rest) (planned-are ks)

-- each level of a pattern has an entry that names it
abbrev Names : List ℕ → History → Level → Type 0
Names text h l = (l.at < length h) × (pattern_at l.at h ≡ Some text)

names-push : (text : List ℕ) (e : Entry) (h : History) (l : Level) → Names text h l → Names text (e ∷ h) l
names-push text e h l n =
    let less : l.at < length h = n.0 in
    let other : (l.at == length h) ≡ false = ne_eqb l.at (length h) (λ s. omega (arith, less, s)) in (
      omega (arith, less),
      ap (λ b. option_and_then (λ (d : Entry). pattern_here d.event) (cond b (Some e) (entry_at l.at h))) other ∙ n.1,
    )

module _ (P : Level → Type 0) where
  all-with : (l : Level) (ks : List Level) → P l → AllByRecursion P ks → AllByRecursion P (with_level l ks)
  all-with l [] p all = (p, tt)
  all-with l (k ∷ ks) p all = go (nat_lt l.index k.index) (l.index == k.index) (all-with l ks p all.1)
    where
      go : (a b : Bool) → AllByRecursion P (with_level l ks) →
          AllByRecursion P (cond a (l ∷ k ∷ ks) (cond b (l ∷ ks) (k ∷ with_level l ks)))
      go true b rest = (p, all)
      go false true rest = (p, all.1)
      go false false rest = (all.0, rest)

  all-without : (index : ℕ) (ks : List Level) → AllByRecursion P ks → AllByRecursion P (without_level index ks)
  all-without index [] all = tt
  all-without index (k ∷ ks) all = go (index == k.index) (all-without index ks all.1)
    where
      go : (b : Bool) → AllByRecursion P (without_level index ks) →
          AllByRecursion P (cond b ks (k ∷ without_level index ks))
      go true rest = all.1
      go false rest = (all.0, rest)

-- one of them is the oldest
module _ (P : ℕ → Type 0) where
  least-is : (x : ℕ) (o : Option ℕ) (n : ℕ) → P x → ((m : ℕ) → o ≡ Some m → P m) → least_of (Some x) o ≡ Some n → P n
  least-is x None n p q is = let same : x ≡ n = cc in subst P same p
  least-is x (Some y) n p q is =
      let same : min x y ≡ n = cc in
      go (nat_le x y) refl same
    where
      go : (b : Bool) → nat_le x y ≡ b → min x y ≡ n → P n
      go true t same =
          let less : x ≤ y = leb-true x y t in
          let first : x ≡ n = omega (arith, less, same) in
          subst P first p
      go false t same =
          let less : y < x = leb-false x y t in
          let second : y ≡ n = omega (arith, less, same) in
          q n (ap Some second)

  oldest-is : (ls : List Level) (n : ℕ) → AllByRecursion (λ (l : Level). P l.at) ls → oldest ls ≡ Some n → P n
  oldest-is [] n all is = cc
  oldest-is (l ∷ ls) n all is = least-is l.at (oldest ls) n all.0 (λ m k. oldest-is ls m all.1 k) is

levels-named : (text : List ℕ) (h : History) → AllByRecursion (Names text h) (levels (LevelTarget.Pattern text) h)
levels-named text [] = tt
levels-named text (e ∷ h) =
    go e.event
    (λ event. each-map (Names text h) (Names text (record { moment = e.moment; event = event } ∷ h))
    (levels (LevelTarget.Pattern text) h) (names-push text (record { moment = e.moment; event = event }) h)
    (levels-named text h))
  where
    go : (event : Event) →
        ((event : Event) → AllByRecursion (Names text (record { moment = e.moment; event = event } ∷ h))
        (levels (LevelTarget.Pattern text) h)) →
        AllByRecursion (Names text (record { moment = e.moment; event = event } ∷ h))
        (levels_after (LevelTarget.Pattern text) (length h) event (levels (LevelTarget.Pattern text) h))
    go (Event.Level set) rest = by set.target
      where
        by : (t : LevelTarget) →
            AllByRecursion (Names text (record {
              moment = e.moment;
              event = Event.Level (record set {
                target =
                    t;
              });
            } ∷ h))
            (levels_after (LevelTarget.Pattern text) (length h) (Event.Level (record set { target = t }))
            (levels (LevelTarget.Pattern text) h))
        by (LevelTarget.Name other) = rest (Event.Level (record set { target = LevelTarget.Name other }))
        by (LevelTarget.Pattern other) = to (bytes_eq text other) refl
          where
            to : (b : Bool) → bytes_eq text other ≡ b →
                AllByRecursion
                (Names text
                (record {
                  moment = e.moment;
                  event = Event.Level (record set {
                    target =
                        LevelTarget.Pattern other;
                  });
                } ∷ h))
                (cond b
                (with_level (record { at = length h; index = set.index; devices = set.devices })
                (levels (LevelTarget.Pattern text) h))
                (levels (LevelTarget.Pattern text) h))
            to true q =
                all-with _ _ (levels (LevelTarget.Pattern text) h) (
                  omega arith,
                  ap (λ b. option_and_then (λ (d : Entry). pattern_here d.event)
                      (cond b (Some (record {
                        moment = e.moment;
                        event = Event.Level (record set { target = LevelTarget.Pattern other });
                      })) (entry_at (length h) h))) (eq-eqb (length h) (length h) refl)
                      ∙ ap Some (sym (same_text text other (sym q))),
                )
                (rest (Event.Level (record set { target = LevelTarget.Pattern other })))
            to false q = rest (Event.Level (record set { target = LevelTarget.Pattern other }))
    go (Event.LevelGone cleared) rest = by cleared.target
      where
        by : (t : LevelTarget) →
            AllByRecursion
            (Names text (record { moment = e.moment; event = Event.LevelGone (record cleared { target = t }) } ∷ h))
            (levels_after (LevelTarget.Pattern text) (length h) (Event.LevelGone (record cleared { target = t }))
            (levels (LevelTarget.Pattern text) h))
        by (LevelTarget.Name other) = rest (Event.LevelGone (record cleared { target = LevelTarget.Name other }))
        by (LevelTarget.Pattern other) = to (bytes_eq text other)
          where
            to : (b : Bool) →
                AllByRecursion
                (Names text (record {
                  moment = e.moment;
                  event = Event.LevelGone (record cleared { target = LevelTarget.Pattern other });
                } ∷ h))
                (cond b (without_level cleared.index (levels (LevelTarget.Pattern text) h))
                (levels (LevelTarget.Pattern text) h))
            to true =
                all-without _ cleared.index (levels (LevelTarget.Pattern text) h)
                (rest (Event.LevelGone (record cleared { target = LevelTarget.Pattern other })))
            to false = rest (Event.LevelGone (record cleared { target = LevelTarget.Pattern other }))
    go event rest = rest event

pattern-named : (text : List ℕ) (h : History) (n : ℕ) → oldest (levels (LevelTarget.Pattern text) h) ≡ Some n →
    pattern_at n h ≡ Some text
pattern-named text h n is =
    oldest-is (λ m. pattern_at m h ≡ Some text) (levels (LevelTarget.Pattern text) h) n
    (each-map (Names text h) (λ (l : Level). pattern_at l.at h ≡ Some text) (levels (LevelTarget.Pattern text) h)
    (λ l k. k.1) (levels-named text h))
    is

-- the scope of a node is in place
pub scope-in-place : (h : History) (target : List ℕ) (scope : Scope) → IsScopeOf h target scope →
    is_in_place scope target h ≡ true
scope-in-place h target Scope.Nothing is = ap not is.0
scope-in-place h target Scope.Name is = is
scope-in-place h target (Scope.Pattern n) is =
    let text = is.1.0 in
    let named : pattern_at n h ≡ Some text = pattern-named text h n is.1.2 in
    let levels-named : pattern_levels n h ≡ levels (LevelTarget.Pattern text) h =
    ap (λ o. elim o [ None ↦ [] | Some text ↦ levels (LevelTarget.Pattern text) h ]) named in
    ap (λ b. not b && is_number (oldest (pattern_levels n h)) n) is.0
    ∙ ap (λ ls. is_number (oldest ls) n) levels-named
    ∙ ap (λ o. is_number o n) is.1.2
    ∙ eq-eqb n n refl
