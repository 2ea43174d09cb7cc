-- The open operations, one after another, as the judge keeps them.
use Rattle.std.specs.Prelude.{ℕ, List, [], ◌∷◌, Bool, true, false, nat_lt, ◌==◌, ◌&&◌, not, if◌then◌else◌, filter}
use Rattle.std.specs.Prelude.{Option, Some, None, option_and_then, length}
use Rattle.fnc_journal.specs.declared.entry.Entry.{Entry}
use Rattle.fnc_journal.specs.declared.event.Event.{Event}
use Rattle.fnc_journal.specs.History.{History}
use Rattle.fnc_journal.specs.Missing.{append_some, first_of, is_number}
use Rattle.fnc_journal.specs.Found.{is_answered, has_exit}
use Rattle.fnc_journal.specs.Registered.{lane}
use Rattle.fnc_journal.specs.Operations.{lead_of, requests, request_here, is_open, operation_here}
use Rattle.fnc_journal.specs.Startable.{Begun, begun_here, Startable, startable}
use Rattle.fnc_search.specs.Pursued.{Pursued, operation, pursued_of}

-- the first request of an operation in a journal that has no reply in all of it
abbrev pub waiting : History → ℕ → History → Option ℕ
waiting all o h = first_of (filter (λ r. not (is_answered r all)) (requests o h))

-- the request that an entry adds, where it has no reply
abbrev pub waiting_here : History → ℕ → Event → Option ℕ
waiting_here all o event = option_and_then (λ r. if is_answered r all then None else Some r) (request_here o event)

-- the operation that an entry begins, where it is open
abbrev pub opened : History → Event → Option Pursued
opened all event = option_and_then (λ n. if is_open n all then pursued_of n all else None) (operation_here event)

-- those that are open in all of it
abbrev pub opens : History → History → List Pursued
opens all [] = []
opens all (e ∷ h) = append_some (opens all h) (opened all e.event)

-- what is found among them, with one more
abbrev pub found_after : (Pursued → Bool) → Option Pursued → Option Pursued → Option Pursued
found_after p (Some f) x = Some f
found_after p None None = None
found_after p None (Some x) = if p x then Some x else None

-- whether a run of a lane is alive in all of it
abbrev pub counts : History → ℕ → Begun → Bool
counts all l b = not (has_exit b.run all) && (lane b.reg all == l)

-- how many runs of a lane that began are alive in all of it
abbrev pub alive_in : History → ℕ → List Begun → ℕ
alive_in all l bs = length (filter (λ b. lane b.reg all == l) (filter (λ b. not (has_exit b.run all)) bs))

-- whether an entry starts such a run
abbrev pub counts_here : History → ℕ → Event → Bool
counts_here all l event = elim (begun_here event) [ None ↦ false | Some b ↦ counts all l b ]

-- the start that an operation may make, if there is one
abbrev pub startable_any : History → ℕ → Option Pursued → Option Startable
startable_any h m None = None
startable_any h m (Some p) = startable h m (operation p)

-- whether a start that is ready at a moment is sooner than what was found
abbrev pub is_sooner : ℕ → Option Startable → Bool
is_sooner ready None = true
is_sooner ready (Some s) = nat_lt ready s.ready

-- whether an entry is a reply to a request of an operation
abbrev pub replies_for : ℕ → Event → History → Bool
replies_for o (Event.Reply reply) h = is_number (lead_of reply.req.0 h) o
replies_for o _ h = false

-- whether the last entry is
abbrev pub last_replies : ℕ → History → Bool
last_replies o [] = false
last_replies o (e ∷ before) = replies_for o e.event (e ∷ before)

-- the same of an entry that may be missing
abbrev pub replies_after : ℕ → History → Option Entry → Bool
replies_after o h None = false
replies_after o h (Some e) = replies_for o e.event h
