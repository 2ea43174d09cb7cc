-- What an event leaves of the numbers of the next registration, request and run.
use Rattle.std.proofs.Common.{ℕ, [], ◌∷◌, Bool, true, false, ◌≡◌, ◌≤◌, ◌+◌, ap, sym, ◌∙◌, cond, length, arith}
use Rattle.fnc_journal.specs.History.{History}
use Rattle.fnc_journal.specs.Found.{devices, asks, starts, is_device}
use Rattle.fnc_core.specs.Parted.{Parted}
use Rattle.fnc_core.specs.Between.{Rests, GaveReplies}
use Rattle.fnc_core.specs.Holds.{Holds}
use Rattle.fnc_core.proofs.Replied.{devices-replied, asks-replied, starts-replied}

-- there are no more registrations than entries
pub devices-most : (h : History) → devices h ≤ length h
devices-most [] = omega arith
devices-most (e ∷ h) = go (is_device e.event) (devices-most h)
  where
    go : (b : Bool) → devices h ≤ length h → cond b (devices h + 1) (devices h) ≤ length (e ∷ h)
    go true k = omega (arith, k)
    go false k = omega (arith, k)

-- the core after an event whose replies were given: the numbers are those that the event leaves
pub holds-replied : (m : ℕ) (p q : Parted) (reg req run : ℕ) → GaveReplies m p q → Rests m q → reg ≡ devices p.history →
    req ≡ asks p.history → run ≡ starts p.history → Holds m q reg req run
holds-replied m p q reg req run g r a b c = record {
  rests = r;
  next_reg = a ∙ sym (ap devices g.history ∙ devices-replied m g.replies p.history g.are);
  next_req = b ∙ sym (ap asks g.history ∙ asks-replied m g.replies p.history g.are);
  next_run = c ∙ sym (ap starts g.history ∙ starts-replied m g.replies p.history g.are);
}
