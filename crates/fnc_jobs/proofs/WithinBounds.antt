-- What stands in a journal whose entries are within their bounds is within its bounds.
use Rattle.std.proofs.Common.{ℕ, List, [], ◌∷◌, Bool, true, false, ◌≡◌, ◌==◌, ◌&&◌, refl, ap, ◌∙◌, subst, Option, Some, None, cond}
use Rattle.std.proofs.lemmas.Bool.{and_parts}
use Rattle.fnc_journal.specs.declared.definition.Registration.{Registration}
use Rattle.fnc_journal.specs.declared.entry.Entry.{Entry}
use Rattle.fnc_journal.specs.declared.event.Event.{Event}
use Rattle.fnc_journal.specs.declared.event.Request.{Request}
use Rattle.fnc_journal.specs.EntryBounds.{
  are_within,
  is_agent_name,
  is_bounded,
  is_device,
  is_event,
  is_request,
  is_within,
}
use Rattle.fnc_journal.specs.Found.{first_found, registration, registration_here, request, requested_here}
use Rattle.fnc_journal.specs.History.{History}
use Rattle.fnc_journal.specs.Missing.{or_here}
use Rattle.fnc_journal.specs.Names.{is_name}

-- what entries say passes a test, and so what the first says that says something
first-within : {X : Type 0} (f : Entry → Option X) (p : X → Bool) →
    ((e : Entry) (x : X) → is_within e ≡ true → f e ≡ Some x → p x ≡ true) → (h : History) (x : X) →
    are_within h ≡ true → first_found f h ≡ Some x → p x ≡ true
first-within {X = X} f p each [] x w k = cc
first-within {X = X} f p each (e ∷ before) x w k =
    let parts = and_parts (is_within e) (are_within before) w in
    go (first_found f before) refl (f e) refl k (first-within f p each before x parts.1) (each e x parts.0)
  where
    go : (y : Option X) → first_found f before ≡ y → (z : Option X) → f e ≡ z → or_here y z ≡ Some x →
        (first_found f before ≡ Some x → p x ≡ true) → (f e ≡ Some x → p x ≡ true) → p x ≡ true
    go y a None b c earlier here = earlier (a ∙ c)
    go None a (Some z) b c earlier here = here (b ∙ c)
    go (Some y) a (Some z) b c earlier here = earlier (a ∙ c)

device-here : (n : ℕ) (event : Event) (g : Registration) → is_event event ≡ true →
    registration_here n event ≡ Some g → is_device g ≡ true
device-here n (Event.Device device) g w k = go (n == device.reg.0) k
  where
    go : (b : Bool) → cond b (Some device.registration) None ≡ Some g → is_device g ≡ true
    go true k = let same : device.registration ≡ g = cc in subst (λ r. is_device r ≡ true) same w
    go false k = cc
device-here n _ g w k = cc

-- a registration has a definition within its bounds
pub registration-within : (h : History) (n : ℕ) (g : Registration) → are_within h ≡ true →
    registration n h ≡ Some g → is_bounded g.definition ≡ true
registration-within h n g w k =
    let device = first-within (λ e. registration_here n e.event) is_device (λ e. device-here n e.event) h g w k in
    (and_parts (is_name g.name && is_agent_name g.agent) (is_bounded g.definition) device).1

request-here : (r : ℕ) (event : Event) (q : Request) → is_event event ≡ true → requested_here r event ≡ Some q →
    is_request q ≡ true
request-here r (Event.Ask ask) q w k = go (r == ask.req.0) k
  where
    go : (b : Bool) → cond b (Some ask) None ≡ Some q → is_request q ≡ true
    go true k = let same : ask ≡ q = cc in subst (λ x. is_request x ≡ true) same w
    go false k = cc
request-here r _ q w k = cc

-- a request is of a node with a name
pub request-within : (h : History) (r : ℕ) (q : Request) → are_within h ≡ true → request r h ≡ Some q →
    is_name q.target ≡ true
request-within h r q w k =
    let asked = first-within (λ e. requested_here r e.event) is_request (λ e. request-here r e.event) h q w k in
    (and_parts (is_name q.client) (is_name q.target) asked).1
