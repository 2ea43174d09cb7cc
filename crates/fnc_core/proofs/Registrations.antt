-- What is known of a registration stays known: what it was made with, its lane and its limit.
use Rattle.std.proofs.Common.{
  ℕ,
  List,
  [],
  ◌∷◌,
  Bool,
  true,
  false,
  ◌≡◌,
  ◌<◌,
  ◌+◌,
  refl,
  ap,
  sym,
  ◌∙◌,
  Option,
  Some,
  None,
  IsTrue,
  arith,
  ◌==◌,
  cond,
  eqb-true,
  is_some,
  min,
  rules,
}
use Rattle.std.specs.Prelude.{bytes_eq, option_and_then, unwrap_or}
use Rattle.fnc_journal.specs.declared.definition.Registration.{Registration}
use Rattle.fnc_journal.specs.declared.event.Event.{Event}
use Rattle.fnc_journal.specs.History.{History}
use Rattle.fnc_journal.specs.Missing.{or_here, least_of}
use Rattle.fnc_journal.specs.Found.{devices, registration, registration_here}
use Rattle.fnc_journal.specs.Registered.{lane, least_registration, named_here}
use Rattle.fnc_journal.specs.Lawful.{Lawful, in_order}
use Rattle.fnc_journal.proofs.Frames.{at, or_here-some}
use Rattle.fnc_journal.proofs.Lawfulness.{in_order-of}
use Rattle.fnc_core.specs.Wanted.{cap_of}

-- a number, where there is one, is below another
abbrev pub IsBelow : ℕ → Option ℕ → Type 0
IsBelow n None = Unit {0}
IsBelow n (Some x) = x < n

below-more : (n : ℕ) (x : Option ℕ) → IsBelow n x → IsBelow (n + 1) x
below-more n None k = tt
below-more n (Some x) k = omega (arith, k)

-- every registration of a name has a number below the next one
pub least-below : (h : History) → Lawful h → (name : List ℕ) → IsBelow (devices h) (least_registration name h)
least-below [] l name = tt
least-below (e ∷ before) l name = go e.event (in_order-of e.moment e.event before l.0.ordered)
    (least-below before l.1 name)
  where
    lesser : (reg : ℕ) → reg ≡ devices before → (y : Option ℕ) → IsBelow (devices before) y →
        IsBelow (devices before + 1) (least_of (Some reg) y)
    lesser reg e None k = omega (arith, e)
    lesser reg e (Some y) k = omega (arith, e, k)

    go : (event : Event) → IsTrue (in_order event before) → IsBelow (devices before) (least_registration name before) →
        IsBelow (devices (at e.moment event ∷ before))
        (least_of (named_here name event) (least_registration name before))
    go (Event.Device device) i k = named (bytes_eq name device.registration.name)
      where
        named : (b : Bool) → IsBelow (devices before + 1)
            (least_of (cond b (Some device.reg.0) None) (least_registration name before))
        named true = lesser device.reg.0 (eqb-true device.reg.0 (devices before) i) (least_registration name before) k
        named false = below-more (devices before) (least_registration name before) k
    go _ i k = k

same_text : (xs : List ℕ) → bytes_eq xs xs ≡ true
same_text xs = grind (arith, rules)

some_least : (x y : Option ℕ) → is_some y ≡ true → is_some (least_of x y) ≡ true
some_least None y e = e
some_least (Some x) None e = refl
some_least (Some x) (Some y) e = refl

some_registration : (q r : Registration) → ◌≡◌ {A = Option Registration} (Some q) (Some r) → r ≡ q
some_registration q r e = cc

least_here : (n : ℕ) (y : Option ℕ) → is_some (least_of (Some n) y) ≡ true
least_here n None = refl
least_here n (Some y) = refl

-- the name of a registration has a least one
pub least-there : (h : History) (n : ℕ) (r : Registration) → registration n h ≡ Some r →
    is_some (least_registration r.name h) ≡ true
least-there [] n r e = cc
least-there (e ∷ before) n r f = go e.event f (λ k. least-there before n r k)
  where
    earlier : (event : Event) (x : Option Registration) → registration n before ≡ x →
        or_here x (registration_here n event) ≡ Some r →
        (registration n before ≡ Some r → is_some (least_registration r.name before) ≡ true) →
        (registration_here n event ≡ Some r → is_some
        (least_of (named_here r.name event) (least_registration r.name before)) ≡ true) →
        is_some (least_of (named_here r.name event) (least_registration r.name before)) ≡ true
    earlier event (Some q) k g ih here = some_least (named_here r.name event) (least_registration r.name before)
        (ih (k ∙ sym (or_here-some q (registration_here n event)) ∙ g))
    earlier event None k g ih here = here (none (registration_here n event) g)
      where
        none : (y : Option Registration) → or_here None y ≡ Some r → y ≡ Some r
        none None j = j
        none (Some y) j = j

    go : (event : Event) → or_here (registration n before) (registration_here n event) ≡ Some r →
        (registration n before ≡ Some r → is_some (least_registration r.name before) ≡ true) →
        is_some (least_of (named_here r.name event) (least_registration r.name before)) ≡ true
    go (Event.Device device) g ih = earlier (Event.Device device) (registration n before) refl g ih
        (this (n == device.reg.0))
      where
        this : (b : Bool) → cond b (Some device.registration) None ≡ Some r →
            is_some (least_of (cond (bytes_eq r.name device.registration.name) (Some device.reg.0) None)
            (least_registration r.name before)) ≡ true
        this true j =
            let same : bytes_eq r.name device.registration.name ≡ true =
            ap (λ (x : Registration). bytes_eq x.name device.registration.name)
            (some_registration device.registration r j) ∙ same_text device.registration.name in
            rw same (least_here device.reg.0 (least_registration r.name before))
        this false j = cc
    go _ g ih = ih g

-- another entry leaves what a registration was made with
pub registration-push : (n m : ℕ) (event : Event) (h : History) → is_some (registration n h) ≡ true →
    registration n (at m event ∷ h) ≡ registration n h
registration-push n m event h e = go (registration n h) e
  where
    go : (x : Option Registration) → is_some x ≡ true → or_here x (registration_here n event) ≡ x
    go None f = cc
    go (Some r) f = or_here-some r (registration_here n event)

-- and so its limit
pub cap-push : (n m : ℕ) (event : Event) (h : History) → is_some (registration n h) ≡ true →
    cap_of n (at m event ∷ h) ≡ cap_of n h
cap-push n m event h e = ap (option_and_then (λ (r : Registration). r.definition.cap)) (registration-push n m event h e)

-- a later registration is no lesser one of its name
least-push : (m : ℕ) (event : Event) (h : History) → Lawful h → in_order event h ≡ true → (name : List ℕ) →
    is_some (least_registration name h) ≡ true →
    least_registration name (at m event ∷ h) ≡ least_registration name h
least-push m (Event.Device device) h l o name e =
    go (bytes_eq name device.registration.name) (least_registration name h) (least-below h l name) e
  where
    next : device.reg.0 ≡ devices h
    next = eqb-true device.reg.0 (devices h) o

    go : (b : Bool) (x : Option ℕ) → IsBelow (devices h) x → is_some x ≡ true →
        least_of (cond b (Some device.reg.0) None) x ≡ x
    go b None k f = cc
    go true (Some x) k f = let least : min device.reg.0 x ≡ x = omega (arith, next, k) in ap Some least
    go false (Some x) k f = refl
least-push m _ h l o name e = refl

-- and so its lane
pub lane-push : (n m : ℕ) (event : Event) (h : History) → Lawful h → in_order event h ≡ true →
    is_some (registration n h) ≡ true → lane n (at m event ∷ h) ≡ lane n h
lane-push n m event h l o e = ap (λ x. unwrap_or
    (option_and_then (λ (r : Registration). least_registration r.name (at m event ∷ h)) x) n)
    (registration-push n m event h e) ∙ go (registration n h) refl e
  where
    go : (x : Option Registration) → registration n h ≡ x → is_some x ≡ true →
        unwrap_or (option_and_then (λ (r : Registration). least_registration r.name (at m event ∷ h)) x) n ≡ unwrap_or
        (option_and_then (λ (r : Registration). least_registration r.name h) x) n
    go None k f = cc
    go (Some r) k f = ap (λ x. unwrap_or x n) (least-push m event h l o r.name (least-there h n r k))
