-- The request that is found under a number says the target of the request of that number.
use Rattle.std.proofs.Common.{ℕ, List, [], ◌∷◌, Bool, true, false, ◌≡◌, ◌==◌, refl, Option, Some, None, cond}
use Rattle.std.specs.Prelude.{option_map}
use Rattle.fnc_journal.specs.declared.event.Event.{Event}
use Rattle.fnc_journal.specs.declared.event.Request.{Request}
use Rattle.fnc_journal.specs.Found.{Asked, asked, asked_here, asked_of, request, requested_here}
use Rattle.fnc_journal.specs.History.{History}
use Rattle.fnc_journal.specs.Missing.{or_here}

-- the target of what was found under a number
abbrev target_in : Option Request → Option (List ℕ)
target_in x = option_map (λ (q : Request). q.target) x

abbrev asked_target : Option Asked → Option (List ℕ)
asked_target x = option_map (λ (a : Asked). a.target) x

first-target : (x u : Option Request) (y v : Option Asked) → target_in x ≡ asked_target y →
    target_in u ≡ asked_target v → target_in (or_here x u) ≡ asked_target (or_here y v)
first-target None None None None e f = refl
first-target None None None (Some v) e f = cc
first-target None (Some u) None None e f = cc
first-target None (Some u) None (Some v) e f = f
first-target None u (Some y) v e f = cc
first-target (Some x) u None v e f = cc
first-target (Some x) None (Some y) None e f = e
first-target (Some x) None (Some y) (Some v) e f = e
first-target (Some x) (Some u) (Some y) None e f = e
first-target (Some x) (Some u) (Some y) (Some v) e f = e

pub request-target : (h : History) (r : ℕ) → target_in (request r h) ≡ asked_target (asked r h)
request-target [] r = refl
request-target (e ∷ before) r =
    first-target (request r before) (requested_here r e.event) (asked r before) (asked_here r e.moment before e.event)
    (request-target before r) (here e.event)
  where
    here : (event : Event) → target_in (requested_here r event) ≡ asked_target (asked_here r e.moment before event)
    here (Event.Ask q) = this (r == q.req.0)
      where
        this : (b : Bool) → target_in (cond b (Some q) None) ≡
            asked_target (cond b (Some (asked_of e.moment before q)) None)
        this true = refl
        this false = refl
    here _ = refl
