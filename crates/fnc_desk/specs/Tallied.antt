-- How many requests, replies, starts and exits a journal has.
use Rattle.std.specs.Prelude.{ℕ, [], ◌∷◌, Bool, true, false, ◌+◌, ◌<◌, if◌then◌else◌}
use Rattle.fnc_journal.specs.declared.event.Event.{Event}
use Rattle.fnc_journal.specs.History.{History}
use Rattle.fnc_journal.specs.Found.{asks, replies, starts}
use Rattle.fnc_desk.specs.declared.tally.Tally.{Tally}

-- whether it is an exit
abbrev pub is_exit : Event → Bool
is_exit (Event.Exit ended) = true
is_exit _ = false

-- how many exits there are
abbrev pub exits : History → ℕ
exits [] = 0
exits (e ∷ before) = if is_exit e.event then exits before + 1 else exits before

-- each count is below a number
abbrev pub IsBelow : ℕ → Tally → Type 0
IsBelow n t = (t.asked < n) × (t.answered < n) × (t.started < n) × (t.ended < n)

-- a tally with one more entry
abbrev pub tallied : Tally → Event → Tally
tallied t (Event.Ask ask) = record t { asked = t.asked + 1 }
tallied t (Event.Reply reply) = record t { answered = t.answered + 1 }
tallied t (Event.Start start) = record t { started = t.started + 1 }
tallied t (Event.Exit ended_) = record t { ended = t.ended + 1 }
tallied t _ = t

-- the tally of a journal
abbrev pub tally_of : History → Tally
tally_of h = record { asked = asks h; answered = replies h; started = starts h; ended = exits h }
