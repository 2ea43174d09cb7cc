-- The patterns of a journal's configuration stand in the order of their births: so the first that is found is the
-- scope of a node.
use Rattle.std.proofs.Common.{
  ℕ,
  List,
  [],
  ◌∷◌,
  Bool,
  true,
  false,
  ◌≡◌,
  ◌≤◌,
  ◌==◌,
  ap,
  sym,
  ◌∙◌,
  refl,
  subst,
  arith,
  length,
  nat_lt,
  true≢false,
  None,
  Some,
  Option,
  if◌then◌else◌,
  cond,
}
use Rattle.std.specs.Prelude.{bytes_eq, unwrap_or}
use Rattle.std.specs.Cmp.Lexicographic.{same_text}
use Rattle.std.specs.List.{AllByRecursion}
use Rattle.std.specs.Map.{lookup, remove_entry, set_value}
use Rattle.std.proofs.lemmas.Cmp.{nat_list_eq_equiv}
use Rattle.std.proofs.lemmas.Option.{none-some}
use Rattle.indexmap.specs.IndexMap.{insert_entry}
use Rattle.fnc_journal.specs.declared.entry.Entry.{Entry}
use Rattle.fnc_journal.specs.declared.entry.LevelTarget.{LevelTarget}
use Rattle.fnc_journal.specs.declared.entry.Scope.{Scope}
use Rattle.fnc_journal.specs.declared.event.Event.{Event}
use Rattle.fnc_journal.specs.History.{History}
use Rattle.fnc_journal.specs.Levels.{Level, birth, levels, oldest, stands, with_level}
use Rattle.fnc_journal.specs.Missing.{has_any, least_of}
use Rattle.fnc_config.specs.Configured.{Targets, configured, configured_by, levels_of, put_levels}
use Rattle.fnc_config.specs.Patterns.{finds}
use Rattle.fnc_config.specs.Scopes.{IsFoundIn, IsScopeOf, scope_among, scope_by, scope_in}
use Rattle.fnc_config.proofs.Keyed.{IsApart, IsNew}
use Rattle.fnc_config.proofs.StandingTargets.{apart, levels-are}

-- since when a pattern has stood
abbrev born : List ℕ → History → ℕ
born text h = birth (LevelTarget.Pattern text) h

-- the levels of these are those of a journal
abbrev AreExact : History → Targets → Type 0
AreExact h ts = AllByRecursion (λ f. levels (LevelTarget.Pattern f.0) h ≡ f.1) ts

-- each has levels, and none that comes later was born earlier
abbrev IsOrdered : History → Targets → Type 0
IsOrdered h [] = Unit {0}
IsOrdered h (e ∷ es) = (has_any e.1 ≡ true) × AllByRecursion (λ f. born e.0 h ≤ born f.0 h) es × IsOrdered h es

module _ (P : List ℕ → Type 0) where
  all-removed : (text : List ℕ) (es : Targets) → AllByRecursion (λ f. P f.0) es →
      AllByRecursion (λ f. P f.0) (remove_entry (bytes_eq text) es)
  all-removed text [] h = tt
  all-removed text (e ∷ es) h = go (bytes_eq text e.0) (all-removed text es h.1)
    where
      go : (b : Bool) → AllByRecursion (λ f. P f.0) (remove_entry (bytes_eq text) es) →
          AllByRecursion (λ f. P f.0) (cond b es (e ∷ remove_entry (bytes_eq text) es))
      go true rest = h.1
      go false rest = (h.0, rest)

  all-written : (text : List ℕ) (w : List Level) (es : Targets) → AllByRecursion (λ f. P f.0) es →
      AllByRecursion (λ f. P f.0) (set_value (bytes_eq text) es w)
  all-written text w [] h = tt
  all-written text w (e ∷ es) h = go (bytes_eq text e.0) (all-written text w es h.1)
    where
      go : (b : Bool) → AllByRecursion (λ f. P f.0) (set_value (bytes_eq text) es w) →
          AllByRecursion (λ f. P f.0) (cond b ((e.0, w) ∷ es) (e ∷ set_value (bytes_eq text) es w))
      go true rest = h
      go false rest = (h.0, rest)

  all-inserted : (text : List ℕ) (w : List Level) (es : Targets) → (lookup (bytes_eq text) es ≡ None → P text) →
      AllByRecursion (λ f. P f.0) es → AllByRecursion (λ f. P f.0) (insert_entry bytes_eq es text w)
  all-inserted text w [] new h = (new refl, tt)
  all-inserted text w (e ∷ es) new h = go (bytes_eq text e.0) refl (λ n. all-inserted text w es n h.1)
    where
      go : (b : Bool) → bytes_eq text e.0 ≡ b →
          ((lookup (bytes_eq text) es ≡ None → P text) →
          AllByRecursion (λ f. P f.0) (insert_entry bytes_eq es text w)) →
          AllByRecursion (λ f. P f.0) (cond b ((e.0, w) ∷ es) (e ∷ insert_entry bytes_eq es text w))
      go true q rest = h
      go false q rest = (h.0, rest (λ none. new (ap (λ b. cond b (Some e.1) (lookup (bytes_eq text) es)) q ∙ none)))

ordered-removed : (h : History) (text : List ℕ) (es : Targets) → IsOrdered h es →
    IsOrdered h (remove_entry (bytes_eq text) es)
ordered-removed h text [] o = tt
ordered-removed h text (e ∷ es) o = go (bytes_eq text e.0) (ordered-removed h text es o.2)
  where
    go : (b : Bool) → IsOrdered h (remove_entry (bytes_eq text) es) →
        IsOrdered h (cond b es (e ∷ remove_entry (bytes_eq text) es))
    go true rest = o.2
    go false rest = (o.0, all-removed (λ k. born e.0 h ≤ born k h) text es o.1, rest)

ordered-written : (h : History) (text : List ℕ) (w : List Level) (es : Targets) → has_any w ≡ true → IsOrdered h es →
    IsOrdered h (set_value (bytes_eq text) es w)
ordered-written h text w [] some o = tt
ordered-written h text w (e ∷ es) some o = go (bytes_eq text e.0) (ordered-written h text w es some o.2)
  where
    go : (b : Bool) → IsOrdered h (set_value (bytes_eq text) es w) →
        IsOrdered h (cond b ((e.0, w) ∷ es) (e ∷ set_value (bytes_eq text) es w))
    go true rest = (some, o.1, o.2)
    go false rest = (o.0, all-written (λ k. born e.0 h ≤ born k h) text w es o.1, rest)

ordered-put : (h : History) (text : List ℕ) (ls : List Level) (es : Targets) → IsOrdered h es →
    IsOrdered h (put_levels text ls es)
ordered-put h text [] es o = ordered-removed h text es o
ordered-put h text (l ∷ ls) es o = ordered-written h text (l ∷ ls) es refl o

ordered-inserted : (h : History) (text : List ℕ) (w : List Level) (es : Targets) → has_any w ≡ true →
    (lookup (bytes_eq text) es ≡ None → AllByRecursion (λ f. born f.0 h ≤ born text h) es) → IsOrdered h es →
    IsOrdered h (insert_entry bytes_eq es text w)
ordered-inserted h text w [] some late o = (some, tt, tt)
ordered-inserted h text w (e ∷ es) some late o =
    go (bytes_eq text e.0) refl (λ l. ordered-inserted h text w es some l o.2)
  where
    go : (b : Bool) → bytes_eq text e.0 ≡ b →
        ((lookup (bytes_eq text) es ≡ None → AllByRecursion (λ f. born f.0 h ≤ born text h) es) →
        IsOrdered h (insert_entry bytes_eq es text w)) →
        IsOrdered h (cond b ((e.0, w) ∷ es) (e ∷ insert_entry bytes_eq es text w))
    go true q rest = (some, o.1, o.2)
    go false q rest =
        let all : lookup (bytes_eq text) es ≡ None → AllByRecursion (λ f. born f.0 h ≤ born text h) (e ∷ es) =
        λ none. late (ap (λ b. cond b (Some e.1) (lookup (bytes_eq text) es)) q ∙ none) in (
          o.0,
          all-inserted (λ k. born e.0 h ≤ born k h) text w es (λ none. (all none).0) o.1,
          rest (λ none. (all none).1),
        )

-- a level is among those that it is put to
has-with : (l : Level) (ks : List Level) → has_any (with_level l ks) ≡ true
has-with l [] = refl
has-with l (k ∷ ks) = go (nat_lt l.index k.index) (l.index == k.index)
  where
    go : (a b : Bool) → has_any (if a then l ∷ k ∷ ks else if b then l ∷ ks else k ∷ with_level l ks) ≡ true
    go true b = refl
    go false true = refl
    go false false = refl

-- no target was born after the last entry
birth-most : (t : LevelTarget) (h : History) → birth t h ≤ length h
birth-most t [] = omega arith
birth-most t (e ∷ before) = go (stands t before) (birth-most t before)
  where
    go : (b : Bool) → birth t before ≤ length before →
        (if b then birth t before else length before) ≤ length (e ∷ before)
    go true most = omega (arith, most)
    go false most = omega arith

-- one more entry leaves the birth of a pattern that stands
same-birth : (e : Entry) (before : History) (f : List ℕ × List Level) → levels (LevelTarget.Pattern f.0) before ≡ f.1 →
    has_any f.1 ≡ true → born f.0 (e ∷ before) ≡ born f.0 before
same-birth e before f exact some =
    ap (λ b. if b then born f.0 before else length before) (ap has_any exact ∙ some)

lift-all : (e : Entry) (before : History) (m : ℕ) (fs : Targets) → AreExact before fs → IsOrdered before fs →
    AllByRecursion (λ f. m ≤ born f.0 before) fs → AllByRecursion (λ f. m ≤ born f.0 (e ∷ before)) fs
lift-all e before m [] exact o all = tt
lift-all e before m (f ∷ fs) exact o all = (
  subst (λ n. m ≤ n) (sym (same-birth e before f exact.0 o.0)) all.0,
  lift-all e before m fs exact.1 o.2 all.1,
)

lift : (e : Entry) (before : History) (ts : Targets) → AreExact before ts → IsOrdered before ts →
    IsOrdered (e ∷ before) ts
lift e before [] exact o = tt
lift e before (f ∷ fs) exact o = (
  o.0,
  subst (λ m. AllByRecursion (λ g. m ≤ born g.0 (e ∷ before)) fs) (sym (same-birth e before f exact.0 o.0))
      (lift-all e before (born f.0 before) fs exact.1 o.2 o.1),
  lift e before fs exact.1 o.2,
)

all-earlier : (e : Entry) (before : History) (n : ℕ) (fs : Targets) → n ≡ length before → AreExact before fs →
    IsOrdered before fs → AllByRecursion (λ f. born f.0 (e ∷ before) ≤ n) fs
all-earlier e before n [] is exact o = tt
all-earlier e before n (f ∷ fs) is exact o =
    let most : born f.0 before ≤ length before = birth-most (LevelTarget.Pattern f.0) before in
    let same : born f.0 (e ∷ before) ≡ born f.0 before = same-birth e before f exact.0 o.0 in
    (omega (arith, most, same, is), all-earlier e before n fs is exact.1 o.2)

-- in a table, the levels of each target are found
extend : (e : List ℕ × List Level) (es fs : Targets) → IsNew e.0 fs → AllByRecursion (λ f. levels_of f.0 es ≡ f.1) fs →
    AllByRecursion (λ f. levels_of f.0 (e ∷ es) ≡ f.1) fs
extend e es [] new all = tt
extend e es (f ∷ fs) new all = (
  ap (λ b. unwrap_or (cond b (Some e.1) (lookup (bytes_eq f.0) es)) []) (nat_list_eq_equiv.symm f.0 e.0 ∙ new.0)
      ∙ all.0,
  extend e es fs new.1 all.1,
)

own : (ts : Targets) → IsApart ts → AllByRecursion (λ f. levels_of f.0 ts ≡ f.1) ts
own [] a = tt
own (e ∷ es) a = (
  ap (λ b. unwrap_or (cond b (Some e.1) (lookup (bytes_eq e.0) es)) []) (nat_list_eq_equiv.refl e.0),
  extend e es es a.0 (own es a.1),
)

exact-of : (h : History) (fs : Targets) → AllByRecursion (λ f. levels_of f.0 (configured h).patterns ≡ f.1) fs →
    AreExact h fs
exact-of h [] all = tt
exact-of h (f ∷ fs) all = (sym (levels-are (LevelTarget.Pattern f.0) h) ∙ all.0, exact-of h fs all.1)

exact : (h : History) → AreExact h (configured h).patterns
exact h = exact-of h (configured h).patterns (own (configured h).patterns (apart h).1)

-- a pattern that did not stand is born with the entry of its level
new-birth : (e : Entry) (before : History) (text : List ℕ) → lookup (bytes_eq text) (configured before).patterns
    ≡ None →
    born text (e ∷ before) ≡ length before
new-birth e before text none =
    let gone : levels (LevelTarget.Pattern text) before ≡ [] =
    sym (levels-are (LevelTarget.Pattern text) before) ∙ ap (λ o. unwrap_or o []) none in
    ap (λ ls. if has_any ls then born text before else length before) gone

ordered : (h : History) → IsOrdered h (configured h).patterns
ordered [] = tt
ordered (e ∷ before) =
    go e.event (lift e before (configured before).patterns (exact before) (ordered before)) (ordered before)
  where
    go : (event : Event) → IsOrdered (e ∷ before) (configured before).patterns →
        IsOrdered before (configured before).patterns →
        IsOrdered (e ∷ before) (configured_by (length before) event (configured before)).patterns
    go (Event.Level set) o old = by set.target
      where
        by : (t : LevelTarget) →
            IsOrdered (e ∷ before)
            (configured_by (length before) (Event.Level (record set { target = t })) (configured before)).patterns
        by (LevelTarget.Name text) = o
        by (LevelTarget.Pattern text) =
            ordered-inserted (e ∷ before) text _ (configured before).patterns
            (has-with _ (levels_of text (configured before).patterns))
            (λ none. all-earlier e before (born text (e ∷ before)) (configured before).patterns
            (new-birth e before text none) (exact before) old)
            o
    go (Event.LevelGone cleared) o old = by cleared.target
      where
        by : (t : LevelTarget) →
            IsOrdered (e ∷ before)
            (configured_by (length before) (Event.LevelGone (record cleared {
              target =
                  t;
            })) (configured before)).patterns
        by (LevelTarget.Name text) = o
        by (LevelTarget.Pattern text) = ordered-put (e ∷ before) text _ (configured before).patterns o
    go _ o old = o

no-oldest : (ls : List Level) → has_any ls ≡ true → oldest ls ≡ None → ⊥
no-oldest [] some p = true≢false (sym some)
no-oldest (l ∷ ls) some p = go (oldest ls) p
  where
    go : (o : Option ℕ) → least_of (Some l.at) o ≡ None → ⊥
    go None q = none-some _ (sym q)
    go (Some m) q = none-some _ (sym q)

-- what stands among others that come later was born later
least-born : (h : History) (text : List ℕ) (ts : Targets) → AllByRecursion (λ f. born text h ≤ born f.0 h) ts →
    (other : List ℕ) → has_any (levels_of other ts) ≡ true → born text h ≤ born other h
least-born h text [] all other some = absurd (true≢false (sym some))
least-born h text (f ∷ fs) all other some = go (bytes_eq other f.0) refl (least-born h text fs all.1 other)
  where
    go : (b : Bool) → bytes_eq other f.0 ≡ b → (has_any (levels_of other fs) ≡ true → born text h ≤ born other h) →
        born text h ≤ born other h
    go true q rest = subst (λ k. born text h ≤ born k h) (sym (same_text other f.0 (sym q))) all.0
    go false q rest =
        rest (subst (λ b. has_any (unwrap_or (cond b (Some f.1) (lookup (bytes_eq other) fs)) []) ≡ true) q some)

-- each pattern that is found is among these
abbrev CoverFound : History → List ℕ → Targets → Type 0
CoverFound h target ts = (other : List ℕ) → IsFoundIn h target other → has_any (levels_of other ts) ≡ true

cover-rest : (h : History) (target : List ℕ) (t : List ℕ × List Level) (ts : Targets) → finds t.0 target ≡ false →
    CoverFound h target (t ∷ ts) → CoverFound h target ts
cover-rest h target t ts unfound c other found = go (bytes_eq other t.0) refl
  where
    go : (b : Bool) → bytes_eq other t.0 ≡ b → has_any (levels_of other ts) ≡ true
    go true q =
        absurd (true≢false (sym found.1 ∙ ap (λ k. finds k target) (same_text other t.0 (sym q)) ∙ unfound))
    go false q =
        subst (λ b. has_any (unwrap_or (cond b (Some t.1) (lookup (bytes_eq other) ts)) []) ≡ true) q (c other found)

least-first : (h : History) (t : List ℕ × List Level) (ts : Targets) →
    AllByRecursion (λ f. born t.0 h ≤ born f.0 h) ts →
    (other : List ℕ) → has_any (levels_of other (t ∷ ts)) ≡ true → born t.0 h ≤ born other h
least-first h t ts all other some = least-born h t.0 (t ∷ ts) (omega arith, all) other some

first-scope : (h : History) (target : List ℕ) (t : List ℕ × List Level) (ts : Targets) →
    stands (LevelTarget.Name target) h ≡ false → AreExact h (t ∷ ts) → IsOrdered h (t ∷ ts) →
    CoverFound h target (t ∷ ts) →
    finds t.0 target ≡ true → (o : Option ℕ) → oldest t.1 ≡ o → IsScopeOf h target (scope_by o)
first-scope h target t ts name exact o c found None p = absurd (no-oldest t.1 o.0 p)
first-scope h target t ts name exact o c found (Some n) p = (
  name,
  (
    t.0,
    (ap has_any exact.0 ∙ o.0, found),
    ap oldest exact.0 ∙ p,
    λ other there. least-first h t ts o.1 other (c other there),
  ),
)

scope-among : (h : History) (target : List ℕ) (ts : Targets) → stands (LevelTarget.Name target) h ≡ false →
    AreExact h ts → IsOrdered h ts → CoverFound h target ts → IsScopeOf h target (scope_among ts target)
scope-among h target [] name exact o c = (name, λ other there. go other there (finds other target) refl)
  where
    go : (other : List ℕ) → stands (LevelTarget.Pattern other) h ≡ true → (b : Bool) → finds other target ≡ b →
        finds other target ≡ false
    go other there true q = absurd (true≢false (sym (c other (there, q))))
    go other there false q = q
scope-among h target (t ∷ ts) name exact o c = go (finds t.0 target) refl (scope-among h target ts name exact.1 o.2)
  where
    go : (b : Bool) → finds t.0 target ≡ b → (CoverFound h target ts → IsScopeOf h target (scope_among ts target)) →
        IsScopeOf h target (if b then scope_by (oldest t.1) else scope_among ts target)
    go true q rest = first-scope h target t ts name exact o c q (oldest t.1) refl
    go false q rest = rest (cover-rest h target t ts q c)

-- the scope of a node in the configuration of a journal is that of the journal
pub scope-is : (h : History) (target : List ℕ) → IsScopeOf h target (scope_in (configured h) target)
scope-is h target = go (has_any (levels_of target (configured h).names)) refl
  where
    go : (b : Bool) → has_any (levels_of target (configured h).names) ≡ b →
        IsScopeOf h target (if b then Scope.Name else scope_among (configured h).patterns target)
    go true q = ap has_any (sym (levels-are (LevelTarget.Name target) h)) ∙ q
    go false q =
        scope-among h target (configured h).patterns
        (ap has_any (sym (levels-are (LevelTarget.Name target) h)) ∙ q) (exact h) (ordered h)
        (λ other there. ap has_any (levels-are (LevelTarget.Pattern other) h) ∙ there.0)
