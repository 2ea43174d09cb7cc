-- Parts of the rules of an entry.
use Rattle.std.specs.Prelude.{ℕ, Bool, false, ◌==◌, ◌&&◌, Option, Some, None, option_map, unwrap_or}
use Rattle.fnc_journal.specs.declared.entry.Entry.{Entry}
use Rattle.fnc_journal.specs.declared.event.Event.{Event}
use Rattle.fnc_journal.specs.declared.event.Reply.{Reply}
use Rattle.fnc_journal.specs.declared.event.Request.{Request}
use Rattle.fnc_journal.specs.declared.event.Start.{Start}
use Rattle.fnc_journal.specs.declared.entry.Slot.{Slot}
use Rattle.fnc_journal.specs.History.{History}
use Rattle.fnc_journal.specs.Same.{same_kind, same_slot}
use Rattle.fnc_journal.specs.Startable.{Startable}
use Rattle.fnc_journal.specs.Lawful.{Pending, pending_of, is_start_of, is_reply_of}
use Rattle.fnc_journal.specs.Operations.{joined}
use Rattle.fnc_journal.specs.Slots.{Operation}

-- the moment of an entry, 0 where there is none
abbrev pub moment_by : Option Entry → ℕ
moment_by None = 0
moment_by (Some e) = e.moment

-- the reply that the last entry of a journal is, where its operation is still open
abbrev pub pending_after : History → Option Entry → Option Pending
pending_after h None = None
pending_after h (Some e) = pending_of e.moment e.event h

-- whether an entry starts a slot of an operation
abbrev pub runs_here : ℕ → Slot → Event → Bool
runs_here o s (Event.Start start) = (o == start.req.0) && same_slot s start.slot
runs_here o s _ = false

-- whether a start has the operation, slot, registration and kind of the first that may start
abbrev pub is_start_with : Start → Startable → Bool
is_start_with start s =
    (start.req.0 == s.operation.req) && same_slot start.slot s.task.slot && (start.reg.0 == s.task.reg)
    && same_kind start.kind s.task.kind

-- whether a start is of the first that may start, and the next attempt
abbrev pub started_as : Start → History → Option Startable → Bool
started_as start h s = is_start_of start.req.0 start.slot start.reg.0 start.kind start.attempt h s

-- whether a reply is the one that is due to an operation
abbrev pub replied_as : Reply → ℕ → History → Option Operation → Bool
replied_as reply m h o = is_reply_of reply.req.0 reply.answer m h o

-- the operation that a request joins, or its own number
abbrev pub lead_for : Request → ℕ → History → ℕ
lead_for request m h = unwrap_or (option_map (λ o. o.req) (joined h m request.kind request.target)) request.req.0
