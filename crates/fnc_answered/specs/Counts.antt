-- How many replies say what.
use Rattle.std.specs.Prelude.{ℕ, [], ◌∷◌, Bool, true, false, ◌+◌, if◌then◌else◌}
use Rattle.fnc_journal.specs.declared.entry.Answer.{Answer}
use Rattle.fnc_journal.specs.declared.event.Event.{Event}
use Rattle.fnc_journal.specs.History.{History}

-- a level passed
abbrev pub is_passed : Answer → Bool
is_passed (Answer.Passed level) = true
is_passed _ = false

-- every level is lost
abbrev pub is_levels : Answer → Bool
is_levels Answer.Levels = true
is_levels _ = false

-- the time is over
abbrev pub is_time : Answer → Bool
is_time Answer.Time = true
is_time _ = false

-- no device is capable
abbrev pub is_no_device : Answer → Bool
is_no_device Answer.NoDevice = true
is_no_device _ = false

-- whether it is a reply whose answer passes a test
abbrev pub is_reply_that : (Answer → Bool) → Event → Bool
is_reply_that p (Event.Reply reply) = p reply.answer
is_reply_that p _ = false

-- how many replies there are whose answers pass a test
abbrev pub replies_that : (Answer → Bool) → History → ℕ
replies_that p [] = 0
replies_that p (e ∷ before) = if is_reply_that p e.event then replies_that p before + 1 else replies_that p before
