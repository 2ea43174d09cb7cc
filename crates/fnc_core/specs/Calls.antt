-- What many calls of the core do, one after another. Of each this says what its contract promises of the core before
-- and after it, where the call is refused too.
use Rattle.std.specs.Prelude.{ℕ, List, [], ◌∷◌, ◌++◌, ◌≡◌, ◌≤◌, false, not, filter}
use Rattle.std.specs.List.{AllByRecursion}
use Rattle.fnc_journal.specs.declared.event.Event.{Event}
use Rattle.fnc_journal.specs.declared.entry.Req.{Req}
use Rattle.fnc_journal.specs.declared.plan.Plan.{Plan}
use Rattle.fnc_journal.specs.History.{History}
use Rattle.fnc_journal.specs.Found.{is_reply}
use Rattle.fnc_core.specs.declared.change.Ask.{Ask}
use Rattle.fnc_core.specs.declared.change.Started.{Started}
use Rattle.fnc_core.specs.Between.{entry, start_of}
use Rattle.fnc_core.specs.Cored.{Cored, Sound, Advances, Enters, Asks, Starts, ask_event}

-- what a call does: the moment advances alone, an input or a request enters, a try starts, or nothing changes
pub data IsCall (old new : Cored) : Type 0 where
  Advanced : (m : ℕ) → old.last ≤ m → Advances old new m → IsCall old new
  Entered : (m : ℕ) (event : Event) (need : ℕ) → old.last ≤ m → is_reply event ≡ false →
      Enters old new m event need → IsCall old new
  Asked : (m : ℕ) (a : Ask) (p : Plan) (req : Req) → old.last ≤ m → Asks old new m a p req → IsCall old new
  Began : (s : Started) → Starts old new s → IsCall old new
  Stayed : new ≡ old → IsCall old new

-- each of these follows from the one before it by a call
abbrev pub AreCalls : Cored → List Cored → Type 0
AreCalls v [] = Unit {0}
AreCalls v (w ∷ ws) = IsCall v w × AreCalls w ws

-- the last of them
abbrev pub after_all : Cored → List Cored → Cored
after_all v [] = v
after_all v (w ∷ ws) = after_all w ws

-- the core is sound at first and after each call
abbrev pub AreSound : Cored → List Cored → Type 0
AreSound v vs = AllByRecursion Sound (v ∷ vs)

-- the journal has more entries, at its end alone and of moments from the last one before to the last one now
pub record Grows (old new : Cored) : Type 0 where
  pub more : History
  pub history : new.history ≡ more ++ old.history
  pub came : AllByRecursion (λ e. (old.last ≤ e.moment) × (e.moment ≤ new.last)) more
  pub later : old.last ≤ new.last
  pub limit : new.limit ≡ old.limit

-- the entries that are no replies: inputs, exits and starts
abbrev pub but_replies : History → History
but_replies h = filter (λ e. not (is_reply e.event)) h

-- the entry of what a call let in or started
abbrev pub entered_by : (old new : Cored) → IsCall old new → History
entered_by old new (Advanced m later advances) = []
entered_by old new (Entered m event need later unreply enters) = entry m event ∷ []
entered_by old new (Asked m a p req later asks) = entry m (ask_event req asks.lead a p) ∷ []
entered_by old new (Began s starts) = entry old.last (Event.Start (start_of s)) ∷ []
entered_by old new (Stayed same) = []

-- the entries of all calls, the newest first
abbrev pub entered_by_all : (v : Cored) (vs : List Cored) → AreCalls v vs → History
entered_by_all v [] calls = []
entered_by_all v (w ∷ ws) calls = entered_by_all w ws calls.1 ++ entered_by v w calls.0
