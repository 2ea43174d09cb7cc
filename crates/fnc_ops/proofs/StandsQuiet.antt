-- An entry that neither asks, replies, confirms, starts nor ends leaves the records as they stand.
use Rattle.std.proofs.Common.{ℕ, ◌∷◌, Bool, true, false, ◌≡◌}
use Rattle.fnc_journal.specs.declared.event.Event.{Event}
use Rattle.fnc_journal.specs.History.{History}
use Rattle.fnc_ops.specs.Kept.{Kept}
use Rattle.fnc_ops.specs.Stands.{StandsFor}

-- an entry of which the records say nothing: a device, a level, an agent, a pass, a line that was refused
abbrev pub is_untold : Event → Bool
is_untold (Event.Ask ask) = false
is_untold (Event.Exit ended) = false
is_untold (Event.Confirm confirmation) = false
is_untold (Event.Start start) = false
is_untold (Event.Reply reply) = false
is_untold _ = true

abbrev after : ℕ → Event → History → History
after m event h = record { moment = m; event = event } ∷ h

pub stands-quiet : (v : Kept) (m : ℕ) (event : Event) (h : History) → is_untold event ≡ true → StandsFor v h →
    StandsFor v (after m event h)
stands-quiet v m (Event.Ask ask) h q s = cc
stands-quiet v m (Event.Exit ended) h q s = cc
stands-quiet v m (Event.Confirm confirmation) h q s = cc
stands-quiet v m (Event.Start start) h q s = cc
stands-quiet v m (Event.Reply reply) h q s = cc
stands-quiet v m _ h q s = record { each = s.each; alive = s.alive }
