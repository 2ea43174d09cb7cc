-- What holds where no answer is due, and when the next input is lawful.
use Rattle.std.proofs.Common.{ℕ, ◌∷◌, true, ◌≡◌, None}
use Rattle.fnc_journal.specs.declared.event.Event.{Event}
use Rattle.fnc_journal.specs.Found.{is_input}
use Rattle.fnc_journal.specs.Operations.{settled}
use Rattle.fnc_journal.specs.Lawful.{Lawful, pending, last_moment, in_order, exit_of, leads}
use Rattle.fnc_journal.proofs.LawfulSteps.{MayCome, lawful-input}
use Rattle.fnc_core.specs.Between.{Rests, entry}
use Rattle.fnc_core.specs.Parted.{Parted}
use Rattle.fnc_core.proofs.Passing.{unpending, settled-since}

module _ (m : ℕ) (p : Parted) (r : Rests m p) where
  pub rests-pending : pending p.history ≡ None
  rests-pending = unpending p.history m r.settled_now r.between.continues

  -- at the last moment nothing was due
  pub rests-last : settled p.history (last_moment p.history) ≡ true
  rests-last = settled-since p.history m r.settled_now r.between.settled_then

  pub rests-come : MayCome m p.history
  rests-come = record { most = r.between.early; later = r.between.came }

  -- the next input, where it is in order
  pub lawful-entered : (event : Event) → is_input event ≡ true → in_order event p.history ≡ true →
      exit_of event p.history ≡ true → leads event m p.history ≡ true → Lawful (entry m event ∷ p.history)
  lawful-entered event i o x l = (
    lawful-input p.history m event rests-come i o x l r.settled_now rests-last
        rests-pending,
    r.between.lawful,
  )
