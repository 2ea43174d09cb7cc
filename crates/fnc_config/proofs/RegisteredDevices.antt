-- The devices of a configuration are the registrations of its journal that are current, in the order of their entries;
-- and each registration is that of its entry.
use Rattle.std.proofs.Common.{
  ℕ,
  List,
  [],
  ◌∷◌,
  ◌++◌,
  Bool,
  true,
  false,
  ◌≡◌,
  ◌≤◌,
  ◌<◌,
  ◌==◌,
  ◌+◌,
  ap,
  ap₂,
  sym,
  ◌∙◌,
  refl,
  subst,
  arith,
  length,
  not,
  None,
  Some,
  Option,
  IsTrue,
  if◌then◌else◌,
  cond,
  eqb-true,
  ne_eqb,
}
use Rattle.std.specs.Prelude.{bytes_eq, filter, option_and_then, option_map}
use Rattle.std.specs.Cmp.Lexicographic.{same_text}
use Rattle.std.specs.List.{AllByRecursion}
use Rattle.std.proofs.lemmas.Bool.{eq-eqb}
use Rattle.std.proofs.lemmas.Cmp.{nat_list_eq_equiv}
use Rattle.std.proofs.lemmas.List.{append-nil}
use Rattle.std.proofs.lemmas.List.Elements.{filter-append}
use Rattle.fnc_journal.specs.declared.definition.Registration.{Registration}
use Rattle.fnc_journal.specs.declared.entry.Entry.{Entry}
use Rattle.fnc_journal.specs.declared.event.Event.{Event}
use Rattle.fnc_journal.specs.declared.event.Registered.{Registered}
use Rattle.fnc_journal.specs.Found.{devices, registration, registration_here}
use Rattle.fnc_journal.specs.History.{History}
use Rattle.fnc_journal.specs.Known.{is_registered_here, names_registered, registered_among}
use Rattle.fnc_journal.specs.Lawful.{Lawful, in_order}
use Rattle.fnc_journal.specs.Missing.{is_number, or_here}
use Rattle.fnc_journal.specs.Registered.{current, current_after, is_current}
use Rattle.fnc_journal.proofs.Each.{each-map}
use Rattle.fnc_journal.proofs.Frames.{or_here-some}
use Rattle.fnc_journal.proofs.Lawfulness.{in_order-of}
use Rattle.fnc_config.specs.Configured.{Numbered, configured, without, without_number}
use Rattle.fnc_config.proofs.Configurations.{devices-apart, devices-beside, registry}
use Rattle.fnc_config.proofs.Registry.{IsRegistry}

-- the registration that an entry makes, if it is the one that its name has
abbrev pub current_here : (List ℕ → Option ℕ) → Event → Numbered
current_here of (Event.Device device) =
    if is_number (of device.registration.name) device.reg.0 then (device.registration.name, device.reg.0) ∷ [] else []
current_here of _ = []

-- the registrations among these entries that their names have, the oldest first
abbrev pub registered : (List ℕ → Option ℕ) → History → Numbered
registered of [] = []
registered of (e ∷ es) = registered of es ++ current_here of e.event

-- the numbers of names in a journal
abbrev pub numbers : History → List ℕ → Option ℕ
numbers h name = current name h

same-registered : (f g : List ℕ → Option ℕ) → ((name : List ℕ) → f name ≡ g name) → (es : History) →
    registered f es ≡ registered g es
same-registered f g same [] = refl
same-registered f g same (e ∷ es) = ap₂ (λ xs ys. xs ++ ys) (same-registered f g same es) (go e.event)
  where
    go : (event : Event) → current_here f event ≡ current_here g event
    go (Event.Device device) =
        ap (λ o. if is_number o device.reg.0 then (device.registration.name, device.reg.0) ∷ [] else [])
        (same device.registration.name)
    go _ = refl

-- the numbers of a lawful journal's registrations are below the next one's
below : (m : ℕ) (event : Event) (es : History) → IsTrue (in_order event es) → (r : ℕ) →
    devices (record { moment = m; event = event } ∷ es) ≤ r → (device : Registered) → event ≡ Event.Device device →
    device.reg.0 < r
below m event es i r most device is =
    let same : device.reg.0 ≡ devices es = eqb-true _ _ (subst (λ e. IsTrue (in_order e es)) is i) in
    let more : devices es + 1 ≤ r =
    subst (λ e. devices (record { moment = m; event = e } ∷ es) ≤ r) is most in
    omega (arith, same, more)

earlier : (m : ℕ) (event : Event) (es : History) (r : ℕ) → devices (record { moment = m; event = event } ∷ es) ≤ r →
    devices es ≤ r
earlier m (Event.Device device) es r most = let more : devices es + 1 ≤ r = most in omega (arith, more)
earlier m _ es r most = most

-- a filter keeps or takes the one that is there
one-kept : (p : List ℕ × ℕ → Bool) (x : List ℕ × ℕ) → p x ≡ true → (b : Bool) →
    cond b (x ∷ []) [] ≡ filter p (cond b (x ∷ []) [])
one-kept p x k true = rw k refl
one-kept p x k false = refl

one-taken : (p : List ℕ × ℕ → Bool) (x : List ℕ × ℕ) → p x ≡ false → (b : Bool) → [] ≡ filter p (cond b (x ∷ []) [])
one-taken p x k true = rw k refl
one-taken p x k false = refl

-- one more registration of a name: those of other names stay
module _ (name : List ℕ) (r : ℕ) (f : List ℕ → Option ℕ) where
  abbrev with_new : List ℕ → Option ℕ
  with_new other = if bytes_eq other name then Some r else f other

  abbrev is_other : List ℕ × ℕ → Bool
  is_other x = not (bytes_eq name x.0)

  new-here : (n : List ℕ) (m : ℕ) → m < r → (b : Bool) → bytes_eq n name ≡ b →
      (if is_number (if b then Some r else f n) m then (n, m) ∷ [] else [])
      ≡ filter is_other (if is_number (f n) m then (n, m) ∷ [] else [])
  new-here n m less true q =
      let unlike : (r == m) ≡ false = ne_eqb r m (λ s. omega (arith, less, s)) in
      let out : is_other (n, m) ≡ false = ap not (nat_list_eq_equiv.symm name n ∙ q) in
      ap (λ c. cond c ((n, m) ∷ []) []) unlike ∙ one-taken is_other (n, m) out (is_number (f n) m)
  new-here n m less false q =
      one-kept is_other (n, m) (ap not (nat_list_eq_equiv.symm name n ∙ q)) (is_number (f n) m)

  registered-new : (es : History) → Lawful es → devices es ≤ r →
      registered with_new es ≡ filter is_other (registered f es)
  registered-new [] l most = refl
  registered-new (e ∷ es) l most =
      ap₂ (λ xs ys. xs ++ ys) (registered-new es l.1 (earlier e.moment e.event es r most))
      (go e.event (below e.moment e.event es (in_order-of e.moment e.event es l.0.ordered) r most))
      ∙ sym (filter-append is_other (registered f es) (current_here f e.event))
    where
      go : (event : Event) → ((device : Registered) → event ≡ Event.Device device → device.reg.0 < r) →
          current_here with_new event ≡ filter is_other (current_here f event)
      go (Event.Device device) less =
          new-here device.registration.name device.reg.0 (less device refl)
          (bytes_eq device.registration.name name) refl
      go _ less = refl

-- a registration is removed: the others stay
module _ (r : ℕ) (f : List ℕ → Option ℕ) where
  abbrev without_one : List ℕ → Option ℕ
  without_one name = if is_number (f name) r then None else f name

  abbrev is_unlike : List ℕ × ℕ → Bool
  is_unlike x = not (x.1 == r)

  gone-here : (n : List ℕ) (m : ℕ) (o : Option ℕ) →
      (if is_number (if is_number o r then None else o) m then (n, m) ∷ [] else [])
      ≡ filter is_unlike (if is_number o m then (n, m) ∷ [] else [])
  gone-here n m None = refl
  gone-here n m (Some c) = go (c == r) refl (c == m) refl
    where
      go : (a : Bool) → (c == r) ≡ a → (b : Bool) → (c == m) ≡ b →
          (if is_number (if a then None else Some c) m then (n, m) ∷ [] else [])
          ≡ filter is_unlike (if b then (n, m) ∷ [] else [])
      go true p true q =
          let same : m ≡ r = sym (eqb-true c m q) ∙ eqb-true c r p in
          one-taken is_unlike (n, m) (ap not (eq-eqb m r same)) true
      go true p false q = refl
      go false p true q =
          let same : c ≡ m = eqb-true c m q in
          let unlike : (m == r) ≡ false = subst (λ k. (k == r) ≡ false) same p in
          ap (λ t. cond t ((n, m) ∷ []) []) q ∙ one-kept is_unlike (n, m) (ap not unlike) true
      go false p false q = ap (λ t. cond t ((n, m) ∷ []) []) q

  registered-gone : (es : History) → registered without_one es ≡ filter is_unlike (registered f es)
  registered-gone [] = refl
  registered-gone (e ∷ es) =
      ap₂ (λ xs ys. xs ++ ys) (registered-gone es) (go e.event)
      ∙ sym (filter-append is_unlike (registered f es) (current_here f e.event))
    where
      go : (event : Event) → current_here without_one event ≡ filter is_unlike (current_here f event)
      go (Event.Device device) = gone-here device.registration.name device.reg.0 (f device.registration.name)
      go _ = refl

-- in a registry, a filter by a name or a number takes one device away
filter-all : (p : List ℕ × ℕ → Bool) (xs : Numbered) → AllByRecursion (λ x. p x ≡ true) xs → filter p xs ≡ xs
filter-all p [] all = refl
filter-all p (x ∷ xs) all =
    ap (λ b. cond b (x ∷ filter p xs) (filter p xs)) all.0 ∙ ap (λ ys. x ∷ ys) (filter-all p xs all.1)

filter-name : (name : List ℕ) (ds : Numbered) (n : ℕ) → IsRegistry ds n →
    filter (λ x. not (bytes_eq name x.0)) ds ≡ without name ds
filter-name name [] n k = refl
filter-name name (d ∷ ds) n k = go (bytes_eq name d.0) refl (filter-name name ds n k.3)
  where
    go : (b : Bool) → bytes_eq name d.0 ≡ b → filter (λ x. not (bytes_eq name x.0)) ds ≡ without name ds →
        cond (not b) (d ∷ filter (λ x. not (bytes_eq name x.0)) ds) (filter (λ x. not (bytes_eq name x.0)) ds)
        ≡ cond b ds (d ∷ without name ds)
    go true q rest =
        filter-all (λ x. not (bytes_eq name x.0)) ds
        (each-map (λ x. bytes_eq d.0 x.0 ≡ false) (λ x. not (bytes_eq name x.0) ≡ true) ds
        (λ x p. ap not (ap (λ o. bytes_eq o x.0) (same_text name d.0 (sym q)) ∙ p)) k.2)
    go false q rest = ap (λ xs. d ∷ xs) rest

filter-number : (r : ℕ) (ds : Numbered) (n : ℕ) → IsRegistry ds n → filter (λ x. not (x.1 == r)) ds
    ≡ without_number r ds
filter-number r [] n k = refl
filter-number r (d ∷ ds) n k = go (d.1 == r) refl (filter-number r ds n k.3)
  where
    go : (b : Bool) → (d.1 == r) ≡ b → filter (λ x. not (x.1 == r)) ds ≡ without_number r ds →
        cond (not b) (d ∷ filter (λ x. not (x.1 == r)) ds) (filter (λ x. not (x.1 == r)) ds)
        ≡ cond b ds (d ∷ without_number r ds)
    go true q rest =
        filter-all (λ x. not (x.1 == r)) ds
        (each-map (λ x. d.1 < x.1) (λ x. not (x.1 == r) ≡ true) ds
        (λ x p. let same : d.1 ≡ r = eqb-true d.1 r q in ap not (ne_eqb x.1 r (λ s. omega (arith, p, same, s)))) k.1)
    go false q rest = ap (λ xs. d ∷ xs) rest

-- what an entry that is in order makes of them
pub devices-next : (m : ℕ) (event : Event) (h : History) → IsTrue (in_order event h) → Lawful h →
    registered (numbers h) h ≡ (configured h).devices →
    registered (numbers (record { moment = m; event = event } ∷ h)) (record { moment = m; event = event } ∷ h)
    ≡ (configured (record { moment = m; event = event } ∷ h)).devices
devices-next m (Event.Device device) h i l same =
    let name = device.registration.name in
    let next : device.reg.0 ≡ devices h = eqb-true _ _ i in
    let most : devices h ≤ device.reg.0 = omega (arith, next) in
    let last : (if is_number (if bytes_eq name name then Some device.reg.0 else current name h) device.reg.0
    then (name, device.reg.0) ∷ [] else []) ≡ (name, device.reg.0) ∷ [] =
    ap (λ b. if is_number (if b then Some device.reg.0 else current name h) device.reg.0
    then (name, device.reg.0) ∷ [] else []) (nat_list_eq_equiv.refl name)
    ∙ ap (λ b. if b then (name, device.reg.0) ∷ [] else []) (eq-eqb device.reg.0 device.reg.0 refl) in
    ap₂ (λ xs ys. xs ++ ys)
    (registered-new name device.reg.0 (numbers h) h l most
    ∙ ap (filter (λ x. not (bytes_eq name x.0))) same
    ∙ filter-name name (configured h).devices (devices h) (registry h l))
    last
devices-next m (Event.Gone reg) h i l same =
    append-nil (registered (numbers (record { moment = m; event = Event.Gone reg } ∷ h)) h)
    ∙ registered-gone reg.0 (numbers h) h
    ∙ ap (filter (λ x. not (x.1 == reg.0))) same
    ∙ filter-number reg.0 (configured h).devices (devices h) (registry h l)
devices-next m (Event.Level set) h i l same =
    append-nil (registered (numbers (record { moment = m; event = Event.Level set } ∷ h)) h)
    ∙ same ∙ sym (devices-beside set.target _ (configured h))
devices-next m (Event.LevelGone cleared) h i l same =
    append-nil (registered (numbers (record { moment = m; event = Event.LevelGone cleared } ∷ h)) h)
    ∙ same ∙ sym (devices-apart cleared.target cleared.index (configured h))
devices-next m _ h i l same = append-nil (registered (numbers h) h) ∙ same

-- the devices of a configuration are the registrations that are current
pub devices-are : (h : History) → Lawful h → registered (numbers h) h ≡ (configured h).devices
devices-are [] l = refl
devices-are (e ∷ before) l =
    devices-next e.moment e.event before (in_order-of e.moment e.event before l.0.ordered) l.1 (devices-are before l.1)

-- they are as many as the names that are registered
length-last : (xs : Numbered) (x : List ℕ × ℕ) → length (xs ++ x ∷ []) ≡ length xs + 1
length-last [] x = refl
length-last (y ∷ xs) x = let more : length (xs ++ x ∷ []) ≡ length xs + 1 = length-last xs x in omega (arith, more)

count-registered : (h es : History) → registered_among h es ≡ length (registered (numbers h) es)
count-registered h [] = refl
count-registered h (e ∷ es) = go e.event (count-registered h es)
  where
    go : (event : Event) → registered_among h es ≡ length (registered (numbers h) es) →
        (if is_registered_here h event then registered_among h es + 1 else registered_among h es)
        ≡ length (registered (numbers h) es ++ current_here (numbers h) event)
    go (Event.Device device) same = by (is_number (current device.registration.name h) device.reg.0)
      where
        by : (b : Bool) → cond b (registered_among h es + 1) (registered_among h es)
            ≡ length (registered (numbers h) es ++ cond b ((device.registration.name, device.reg.0) ∷ []) [])
        by true =
            ap (λ n. n + 1) same
            ∙ sym (length-last (registered (numbers h) es) (device.registration.name, device.reg.0))
        by false = same ∙ ap length (sym (append-nil (registered (numbers h) es)))
    go _ same = same ∙ ap length (sym (append-nil (registered (numbers h) es)))

-- no registration to come is made
fresh-registration : (h : History) → Lawful h → (n : ℕ) → devices h ≤ n → registration n h ≡ None
fresh-registration [] l n le = refl
fresh-registration (e ∷ before) l n le =
    go e.event (in_order-of e.moment e.event before l.0.ordered) le (λ k. fresh-registration before l.1 n k)
  where
    go : (event : Event) → IsTrue (in_order event before) →
        devices (record { moment = e.moment; event = event } ∷ before) ≤ n →
        (devices before ≤ n → registration n before ≡ None) →
        or_here (registration n before) (registration_here n event) ≡ None
    go (Event.Device device) i k ih =
        let more : devices before + 1 ≤ n = k in
        let same : device.reg.0 ≡ devices before = eqb-true _ _ i in
        let other : (n == device.reg.0) ≡ false = ne_eqb n device.reg.0 (λ s. omega (arith, more, same, s)) in
        rw (other, ih (omega (arith, more))) refl
    go _ i k ih = rw (ih k) refl

registration-push : (n : ℕ) (r : Registration) (e : Entry) (h : History) → registration n h ≡ Some r →
    registration n (e ∷ h) ≡ Some r
registration-push n r e h p = rw p (or_here-some r (registration_here n e.event))

-- a new registration is the one of its number
registration-new : (m : ℕ) (device : Registered) (h : History) → Lawful h → IsTrue (in_order (Event.Device device) h) →
    registration device.reg.0 (record { moment = m; event = Event.Device device } ∷ h) ≡ Some device.registration
registration-new m device h l i =
    let same : device.reg.0 ≡ devices h = eqb-true _ _ i in
    let none : registration device.reg.0 h ≡ None = fresh-registration h l device.reg.0 (omega (arith, same)) in
    ap (λ o. or_here o (registration_here device.reg.0 (Event.Device device))) none
    ∙ ap (λ b. or_here None (cond b (Some device.registration) None)) (eq-eqb device.reg.0 device.reg.0 refl)

-- the registration of an entry is the one of its number in a journal
abbrev pub IsKnownHere : History → Event → Type 0
IsKnownHere h (Event.Device device) = registration device.reg.0 h ≡ Some device.registration
IsKnownHere h _ = Unit {0}

-- the registration of each of these entries is the one of its number in a journal
abbrev pub AreKnown : History → History → Type 0
AreKnown h es = AllByRecursion (λ (e : Entry). IsKnownHere h e.event) es

pub known : (h : History) → Lawful h → AreKnown h h
known [] l = tt
known (e ∷ before) l = (
  go e.event (in_order-of e.moment e.event before l.0.ordered),
  each-map (λ (d : Entry). IsKnownHere before d.event) (λ (d : Entry). IsKnownHere (e ∷ before) d.event) before
      (λ d k. push d.event k) (known before l.1),
)
  where
    go : (event : Event) → IsTrue (in_order event before) →
        IsKnownHere (record { moment = e.moment; event = event } ∷ before) event
    go (Event.Device device) i = registration-new e.moment device before l.1 i
    go _ i = tt

    push : (event : Event) → IsKnownHere before event → IsKnownHere (e ∷ before) event
    push (Event.Device device) k = registration-push device.reg.0 device.registration e before k
    push _ k = tt

-- the name of the registration that a name has is that name
abbrev name_of : Option Registration → Option (List ℕ)
name_of o = option_map (λ (r : Registration). r.name) o

name-push : (n : ℕ) (name : List ℕ) (e : Entry) (h : History) → name_of (registration n h) ≡ Some name →
    name_of (registration n (e ∷ h)) ≡ Some name
name-push n name e h p = go (registration n h) refl p
  where
    go : (o : Option Registration) → registration n h ≡ o → name_of o ≡ Some name →
        name_of (registration n (e ∷ h)) ≡ Some name
    go None is p = cc
    go (Some r) is p = ap name_of (registration-push n r e h is) ∙ p

current-name : (name : List ℕ) (h : History) → Lawful h → (n : ℕ) → current name h ≡ Some n →
    name_of (registration n h) ≡ Some name
current-name name [] l n p = cc
current-name name (e ∷ before) l n p =
    go e.event (in_order-of e.moment e.event before l.0.ordered)
    (λ m event q. name-push n name (record { moment = m; event = event }) before (current-name name before l.1 n q)) p
  where
    go : (event : Event) → IsTrue (in_order event before) →
        ((m : ℕ) (event : Event) → current name before ≡ Some n →
        name_of (registration n (record { moment = m; event = event } ∷ before)) ≡ Some name) →
        current_after name event (current name before) ≡ Some n →
        name_of (registration n (record { moment = e.moment; event = event } ∷ before)) ≡ Some name
    go (Event.Device device) i rest p = by (bytes_eq name device.registration.name) refl p
      where
        by : (b : Bool) → bytes_eq name device.registration.name ≡ b →
            cond b (Some device.reg.0) (current name before) ≡ Some n →
            name_of (registration n (record { moment = e.moment; event = Event.Device device } ∷ before)) ≡ Some name
        by true q p =
            let same : device.reg.0 ≡ n = cc in
            subst (λ k. name_of (registration k (record {
              moment = e.moment;
              event =
                  Event.Device device;
            } ∷ before)) ≡ Some name)
            same
            (ap name_of (registration-new e.moment device before l.1 i)
            ∙ ap Some (sym (same_text name device.registration.name (sym q))))
        by false q p = rest e.moment (Event.Device device) p
    go (Event.Gone reg) i rest p = by (is_number (current name before) reg.0) p
      where
        by : (b : Bool) → cond b None (current name before) ≡ Some n →
            name_of (registration n (record { moment = e.moment; event = Event.Gone reg } ∷ before)) ≡ Some name
        by true p = cc
        by false p = rest e.moment (Event.Gone reg) p
    go event i rest p = rest e.moment event p

-- so it is a current one
pub current-is : (name : List ℕ) (h : History) → Lawful h → (n : ℕ) → current name h ≡ Some n → is_current n h ≡ true
current-is name h l n p = go (registration n h) (current-name name h l n p)
  where
    go : (o : Option Registration) → name_of o ≡ Some name →
        is_number (option_and_then (λ (r : Registration). current r.name h) o) n ≡ true
    go None q = cc
    go (Some r) q =
        let same : r.name ≡ name = cc in
        ap (λ o. is_number o n) (ap (λ k. current k h) same ∙ p) ∙ eq-eqb n n refl

-- an entry that registers a device leaves as many names as there are others, and one
pub few-left : (h : History) → Lawful h → (m : ℕ) (device : Registered) → IsTrue (in_order (Event.Device device) h) →
    names_registered (record { moment = m; event = Event.Device device } ∷ h)
    ≡ length (without device.registration.name (configured h).devices) + 1
few-left h l m device i =
    let after : History = record { moment = m; event = Event.Device device } ∷ h in
    count-registered after after
    ∙ ap length (devices-next m (Event.Device device) h i l (devices-are h l))
    ∙ length-last (without device.registration.name (configured h).devices) (device.registration.name, device.reg.0)
