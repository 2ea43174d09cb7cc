-- Few names stay registered and levels stay within their bounds, so the plan of every request is small.
use Rattle.std.proofs.Common.{
  ℕ,
  List,
  [],
  ◌∷◌,
  ◌++◌,
  Bool,
  true,
  false,
  ◌≡◌,
  ◌≤◌,
  ◌<◌,
  ◌+◌,
  ◌==◌,
  ◌&&◌,
  cond,
  refl,
  ap,
  sym,
  ◌∙◌,
  subst,
  Option,
  Some,
  None,
  arith,
  length,
  map,
  ltb,
}
use Rattle.std.specs.Prelude.{int_lt, option_map}
use Rattle.std.specs.List.{AllByRecursion}
use Rattle.std.proofs.lemmas.List.{length-map}
use Rattle.fnc_journal.specs.declared.entry.Entry.{Entry}
use Rattle.fnc_journal.specs.declared.entry.Kind.{Kind}
use Rattle.fnc_journal.specs.declared.entry.LevelTarget.{LevelTarget}
use Rattle.fnc_journal.specs.declared.entry.Scope.{Scope}
use Rattle.fnc_journal.specs.declared.event.Event.{Event}
use Rattle.fnc_journal.specs.declared.limits.TheConstants.{MOST_DEVICES, MOST_DEVICES_OF_LEVEL, MOST_LEVELS_OF_TARGET}
use Rattle.fnc_journal.specs.declared.plan.Plan.{Plan}
use Rattle.fnc_journal.specs.Device.{Device}
use Rattle.fnc_journal.specs.Found.{devices, is_device}
use Rattle.fnc_journal.specs.History.{History}
use Rattle.fnc_journal.specs.Levels.{
  Level,
  with_level,
  without_level,
  levels_after,
  levels,
  pattern_at,
  pattern_levels,
  scoped,
}
use Rattle.fnc_journal.specs.Missing.{is_number}
use Rattle.fnc_journal.specs.Plan.{
  Wanted,
  plan,
  plan_level,
  reg_of,
  is_candidate,
  candidate,
  candidate_here,
  candidates_among,
  candidates_by,
  with_any,
  with_candidate,
}
use Rattle.fnc_journal.specs.Registered.{current, current_after}
use Rattle.fnc_journal.specs.Same.{same_target}
use Rattle.fnc_journal.specs.Served.{AreReplies}
use Rattle.fnc_journal.proofs.Each.{each-map}
use Rattle.fnc_journal.proofs.RisingLevels.{Above, Rising, scoped-rising}
use Rattle.fnc_ops.specs.Stands.{AreFewDevices}
use Rattle.fnc_core.specs.Between.{IsBoundedEvent, IsPlanOf, entry}
use Rattle.fnc_journal.specs.Known.{
  IsBoundedLevel,
  IsSmallLevel,
  KnowsFew,
  LeavesFewNames,
  is_registered_here,
  names_registered,
  registered_among,
}
use Rattle.fnc_core.proofs.Replied.{replied}

-- what counts in one journal counts in another: there are no more in the first
registered-less : (g h : History) → ((event : Event) → is_registered_here g event ≡ true →
    is_registered_here h event ≡ true) →
    (es : History) → registered_among g es ≤ registered_among h es
registered-less g h f [] = omega arith
registered-less g h f (e ∷ es) =
    go (is_registered_here g e.event) refl (is_registered_here h e.event) refl (registered-less g h f es)
  where
    go : (b : Bool) → is_registered_here g e.event ≡ b → (c : Bool) → is_registered_here h e.event ≡ c →
        registered_among g es ≤ registered_among h es →
        cond b (registered_among g es + 1) (registered_among g es) ≤ cond c (registered_among h es + 1)
        (registered_among h es)
    go true p true q ih = omega (arith, ih)
    go true p false q ih = let counts : is_registered_here h e.event ≡ true = f e.event p in cc
    go false p true q ih = omega (arith, ih)
    go false p false q ih = ih

-- there are no more than registrations
registered-most : (h es : History) → registered_among h es ≤ devices es
registered-most h [] = omega arith
registered-most h (e ∷ es) = go e.event (registered-most h es)
  where
    go : (event : Event) → registered_among h es ≤ devices es →
        cond (is_registered_here h event) (registered_among h es + 1) (registered_among h es)
        ≤ cond (is_device event) (devices es + 1) (devices es)
    go (Event.Device device) ih = here (is_number (current device.registration.name h) device.reg.0) ih
      where
        here : (b : Bool) → registered_among h es ≤ devices es →
            cond b (registered_among h es + 1) (registered_among h es) ≤ devices es + 1
        here true ih = omega (arith, ih)
        here false ih = omega (arith, ih)
    go _ ih = ih

devices-more : (m : ℕ) (event : Event) (h : History) → devices (entry m event ∷ h) ≤ devices h + 1
devices-more m event h = go (is_device event)
  where
    go : (b : Bool) → cond b (devices h + 1) (devices h) ≤ devices h + 1
    go true = omega arith
    go false = omega arith

-- where so few devices ever were registered, one more leaves few names
pub few-ever : (m : ℕ) (event : Event) (h : History) → devices h + 1 ≤ MOST_DEVICES → LeavesFewNames m event h
few-ever m event h k =
    let most : names_registered (entry m event ∷ h) ≤ devices (entry m event ∷ h) =
    registered-most (entry m event ∷ h) (entry m event ∷ h) in
    let more : devices (entry m event ∷ h) ≤ devices h + 1 = devices-more m event h in
    let few : names_registered (entry m event ∷ h) ≤ MOST_DEVICES = omega (arith, most, more, k) in
    few

-- an entry that is no registration makes no registration current
current-before : (m : ℕ) (event : Event) (h : History) → is_device event ≡ false → (x : Event) →
    is_registered_here (entry m event ∷ h) x ≡ true → is_registered_here h x ≡ true
current-before m event h n (Event.Device device) e = go event n e
  where
    go : (event : Event) → is_device event ≡ false →
        is_number (current_after device.registration.name event (current device.registration.name h)) device.reg.0
        ≡ true →
        is_number (current device.registration.name h) device.reg.0 ≡ true
    go (Event.Device other) n e = cc
    go (Event.Gone reg) n e = gone (is_number (current device.registration.name h) reg.0) e
      where
        gone : (b : Bool) → is_number (cond b None (current device.registration.name h)) device.reg.0 ≡ true →
            is_number (current device.registration.name h) device.reg.0 ≡ true
        gone true e = cc
        gone false e = e
    go _ n e = e
current-before m event h n _ e = e

uncounted : (h : History) (event : Event) → is_device event ≡ false → is_registered_here h event ≡ false
uncounted h (Event.Device device) n = cc
uncounted h _ n = refl

-- it leaves few names where few stood
pub few-undevice : (m : ℕ) (event : Event) (h : History) → is_device event ≡ false → KnowsFew h →
    LeavesFewNames m event h
few-undevice m event h n k =
    let less : registered_among (entry m event ∷ h) h ≤ registered_among h h =
    registered-less (entry m event ∷ h) h (current-before m event h n) h in
    let same : names_registered (entry m event ∷ h) ≡ registered_among (entry m event ∷ h) h =
    ap (λ b. cond b (registered_among (entry m event ∷ h) h + 1) (registered_among (entry m event ∷ h) h))
    (uncounted (entry m event ∷ h) event n) in
    let names : registered_among h h ≤ MOST_DEVICES = k.names in
    let few : names_registered (entry m event ∷ h) ≤ MOST_DEVICES = omega (arith, less, same, names) in
    few

-- replies before an entry change nothing of that
module _ (n m : ℕ) (event : Event) (rs h : History) (are : AreReplies n rs) where
  abbrev alone : History
  alone = entry m event ∷ h

  abbrev answered : History
  answered = entry m event ∷ (rs ++ h)

  registered-alone : (x : Event) → is_registered_here answered x ≡ true → is_registered_here alone x ≡ true
  registered-alone (Event.Device device) e =
      ap (λ c. is_number (current_after device.registration.name event c) device.reg.0)
      (sym (replied (current device.registration.name) (λ m req answer h. refl) n rs h are))
      ∙ e
  registered-alone _ e = e

  pub leaves-replied : LeavesFewNames m event h → LeavesFewNames m event (rs ++ h)
  leaves-replied k =
      let less : registered_among answered answered ≤ registered_among alone answered =
      registered-less answered alone registered-alone answered in
      let same : registered_among alone answered ≡ registered_among alone alone =
      ap (λ k. cond (is_registered_here alone event) (k + 1) k)
      (replied (registered_among alone) (λ m req answer h. refl) n rs h are) in
      let names : registered_among alone alone ≤ MOST_DEVICES = k in
      let few : registered_among answered answered ≤ MOST_DEVICES = omega (arith, less, same, names) in
      few

-- an entry within its bounds that leaves few names keeps what is known small
bounded-level : (event : Event) → IsBoundedEvent event → IsBoundedLevel event
bounded-level (Event.Level set) b = b
bounded-level _ b = tt

pub knows-push : (m : ℕ) (event : Event) (h : History) → KnowsFew h → IsBoundedEvent event → LeavesFewNames m event h →
    KnowsFew (entry m event ∷ h)
knows-push m event h k b few = record { names = few; levels = (bounded-level event b, k.levels) }

pub knows-undevice : (m : ℕ) (event : Event) (h : History) → is_device event ≡ false → KnowsFew h →
    IsBoundedEvent event → KnowsFew (entry m event ∷ h)
knows-undevice m event h n k b = knows-push m event h k b (few-undevice m event h n k)

-- candidates are among the names that are registered
module _ (w : Wanted) (h : History) where
  with-one : (d : Device) (cs : List Device) → length (with_candidate d cs) ≡ length cs + 1
  with-one d [] = refl
  with-one d (c ∷ cs) = go (int_lt c.definition.priority d.definition.priority) (with-one d cs)
    where
      go : (b : Bool) → length (with_candidate d cs) ≡ length cs + 1 →
          length (cond b (d ∷ c ∷ cs) (c ∷ with_candidate d cs)) ≡ length (c ∷ cs) + 1
      go true ih = let more : length (d ∷ c ∷ cs) ≡ length (c ∷ cs) + 1 = omega arith in more
      go false ih = let more : length (c ∷ with_candidate d cs) ≡ length (c ∷ cs) + 1 = omega (arith, ih) in more

  among-few : (es : History) → length (candidates_among w h es) ≤ registered_among h es
  among-few [] = omega arith
  among-few (e ∷ es) = go e.event (among-few es)
    where
      go : (event : Event) → length (candidates_among w h es) ≤ registered_among h es →
          length (with_any (candidate_here w h event) (candidates_among w h es))
          ≤ cond (is_registered_here h event) (registered_among h es + 1) (registered_among h es)
      go (Event.Device device) ih =
          here (record { reg = device.reg.0; definition = device.registration.definition })
          (is_number (current device.registration.name h) device.reg.0)
          (is_candidate w h (record { reg = device.reg.0; definition = device.registration.definition })) ih
        where
          here : (d : Device) (b c : Bool) → length (candidates_among w h es) ≤ registered_among h es →
              length (with_any (cond (b && c) (Some d) None) (candidates_among w h es)) ≤ cond b
              (registered_among h es + 1) (registered_among h es)
          here d true true ih =
              let more : length (with_candidate d (candidates_among w h es)) ≡ length (candidates_among w h es) + 1 =
              with-one d (candidates_among w h es) in
              omega (arith, ih, more)
          here d true false ih = omega (arith, ih)
          here d false c ih = ih
      go _ ih = ih

  pub few-candidates : KnowsFew h → length (plan w h).candidates ≤ MOST_DEVICES
  few-candidates k = go w.scope
    where
      go : (s : Scope) → length (candidates_by s (map (candidate w h) (candidates_among w h h))) ≤ MOST_DEVICES
      go Scope.Nothing =
          let same : length (map (candidate w h) (candidates_among w h h)) ≡ length (candidates_among w h h) =
          length-map (candidates_among w h h) (candidate w h) in
          let few : length (candidates_among w h h) ≤ registered_among h h = among-few h in
          let names : registered_among h h ≤ MOST_DEVICES = k.names in
          let most : length (map (candidate w h) (candidates_among w h h)) ≤ MOST_DEVICES =
          omega (arith, same, few, names) in
          most
      go Scope.Name = omega arith
      go (Scope.Pattern n) = omega arith

-- each level that stands was set within its bounds
abbrev pub AreSmall : List Level → Type 0
AreSmall ls = AllByRecursion (λ (l : Level). IsSmallLevel l.index l.devices) ls

small-with : (l : Level) (ls : List Level) → IsSmallLevel l.index l.devices → AreSmall ls → AreSmall (with_level l ls)
small-with l [] s a = (s, tt)
small-with l (k ∷ ks) s a = go (ltb l.index k.index) (l.index == k.index) (small-with l ks s a.1)
  where
    go : (b c : Bool) → AreSmall (with_level l ks) →
        AreSmall (cond b (l ∷ k ∷ ks) (cond c (l ∷ ks) (k ∷ with_level l ks)))
    go true c ih = (s, a)
    go false true ih = (s, a.1)
    go false false ih = (a.0, ih)

small-without : (index : ℕ) (ls : List Level) → AreSmall ls → AreSmall (without_level index ls)
small-without index [] a = tt
small-without index (k ∷ ks) a = go (index == k.index) (small-without index ks a.1)
  where
    go : (b : Bool) → AreSmall (without_level index ks) → AreSmall (cond b ks (k ∷ without_level index ks))
    go true ih = a.1
    go false ih = (a.0, ih)

pub levels-small : (target : LevelTarget) (h : History) → AllByRecursion (λ (e : Entry). IsBoundedLevel e.event) h →
    AreSmall (levels target h)
levels-small target [] k = tt
levels-small target (e ∷ before) k = go e.event k.0 (levels-small target before k.1)
  where
    go : (event : Event) → IsBoundedLevel event → AreSmall (levels target before) →
        AreSmall (levels_after target (length before) event (levels target before))
    go (Event.Level set_) s a = set (same_target target set_.target)
      where
        set : (b : Bool) → AreSmall (cond b (with_level
            (record { at = length before; index = set_.index; devices = set_.devices }) (levels target before))
            (levels target before))
        set true = small-with (record { at = length before; index = set_.index; devices = set_.devices })
            (levels target before) s a
        set false = a
    go (Event.LevelGone cleared) s a = gone (same_target target cleared.target)
      where
        gone : (b : Bool) → AreSmall (cond b (without_level cleared.index (levels target before))
            (levels target before))
        gone true = small-without cleared.index (levels target before) a
        gone false = a
    go _ s a = a

pattern-small : (n : ℕ) (h : History) → AllByRecursion (λ (e : Entry). IsBoundedLevel e.event) h →
    AreSmall (pattern_levels n h)
pattern-small n h k = go (pattern_at n h) refl
  where
    go : (x : Option (List ℕ)) → pattern_at n h ≡ x → AreSmall (pattern_levels n h)
    go None e =
        let none : pattern_levels n h ≡ [] = rw (e, pattern_levels) refl in
        subst AreSmall (sym none) tt
    go (Some text) e =
        let some : pattern_levels n h ≡ levels (LevelTarget.Pattern text) h = rw (e, pattern_levels) refl in
        subst AreSmall (sym some) (levels-small (LevelTarget.Pattern text) h k)

scoped-small : (scope : Scope) (target : List ℕ) (h : History) →
    AllByRecursion (λ (e : Entry). IsBoundedLevel e.event) h → AreSmall (scoped scope target h)
scoped-small Scope.Nothing target h k = tt
scoped-small Scope.Name target h k = levels-small (LevelTarget.Name target) h k
scoped-small (Scope.Pattern n) target h k = pattern-small n h k

-- levels of rising index within its bounds are few
rising-few : (n : ℕ) (ls : List Level) → n ≤ MOST_LEVELS_OF_TARGET → Above n ls → Rising ls → AreSmall ls →
    length ls + n ≤ MOST_LEVELS_OF_TARGET
rising-few n [] le a r s = omega (arith, le)
rising-few n (l ∷ ls) le a r s =
    let most : l.index ≤ MOST_LEVELS_OF_TARGET = s.0.most in
    let above : n < l.index = a.0 in
    let rest : length ls + l.index ≤ MOST_LEVELS_OF_TARGET = rising-few l.index ls most r.0 r.1 s.1 in
    omega (arith, above, rest)

planned-small : (h : History) (ls : List Level) → AreSmall ls → AreFewDevices (map (plan_level h) ls)
planned-small h [] a = tt
planned-small h (l ∷ ls) a =
    let same : length (map (λ name. option_map reg_of (current name h)) l.devices) ≡ length l.devices =
    length-map l.devices _ in
    let few : length l.devices ≤ MOST_DEVICES_OF_LEVEL = a.0.few in
    let most : length (map (λ name. option_map reg_of (current name h)) l.devices) ≤ MOST_DEVICES_OF_LEVEL =
    omega (arith, same, few) in
    (most, planned-small h ls a.1)

module _ (w : Wanted) (h : History) (k : KnowsFew h) where
  small-here : AreSmall (scoped w.scope w.target h)
  small-here = scoped-small w.scope w.target h k.levels

  pub few-levels : length (plan w h).levels ≤ MOST_LEVELS_OF_TARGET
  few-levels =
      let same : length (map (plan_level h) (scoped w.scope w.target h)) ≡ length (scoped w.scope w.target h) =
      length-map (scoped w.scope w.target h) (plan_level h) in
      let above : Above 0 (scoped w.scope w.target h) =
      each-map (λ (l : Level). IsSmallLevel l.index l.devices) (λ (l : Level). 0 < l.index) (scoped w.scope w.target h)
      (λ l s. let least : 1 ≤ l.index = s.least in omega (arith, least)) small-here in
      let few : length (scoped w.scope w.target h) + 0 ≤ MOST_LEVELS_OF_TARGET =
      rising-few 0 (scoped w.scope w.target h) (omega arith) above (scoped-rising w.scope w.target h) small-here in
      let most : length (map (plan_level h) (scoped w.scope w.target h)) ≤ MOST_LEVELS_OF_TARGET =
      omega (arith, same, few) in
      most

  pub few-devices : AreFewDevices (plan w h).levels
  few-devices = planned-small h (scoped w.scope w.target h) small-here

-- the plan of a target is small
module _ (h : History) (m : ℕ) (kind : Kind) (target : List ℕ) (p : Plan) (k : KnowsFew h)
    (planned : IsPlanOf h m kind target p) where
  abbrev asked : Wanted
  asked = record { kind = kind; target = target; begin = m; scope = p.scope }

  pub planned-candidates : length p.candidates ≤ MOST_DEVICES
  planned-candidates = subst (λ (q : Plan). length q.candidates ≤ MOST_DEVICES) (sym planned) (few-candidates asked h k)

  pub planned-levels : length p.levels ≤ MOST_LEVELS_OF_TARGET
  planned-levels = subst (λ (q : Plan). length q.levels ≤ MOST_LEVELS_OF_TARGET) (sym planned) (few-levels asked h k)

  pub planned-devices : AreFewDevices p.levels
  planned-devices = subst (λ (q : Plan). AreFewDevices q.levels) (sym planned) (few-devices asked h k)
