-- Which try starts next: of those that are ready on a lane with room, the one that has been ready for the
-- longest, and of equals the one of the least operation.
use Rattle.std.specs.Prelude.{
  ℕ,
  List,
  [],
  ◌∷◌,
  Bool,
  true,
  false,
  ◌≡◌,
  ◌==◌,
  ◌&&◌,
  ◌||◌,
  if◌then◌else◌,
  nat_lt,
  nat_le,
  Option,
  Some,
  None,
}
use Rattle.std.specs.List.{list_any, AllByRecursion, Contains}
use Rattle.fnc_journal.specs.declared.entry.Reg.{Reg}
use Rattle.fnc_journal.specs.Startable.{has_room}
use Rattle.fnc_queue.specs.declared.waiting.Waiting.{Waiting}
use Rattle.fnc_queue.specs.Lanes.{lane_count}
use Rattle.fnc_queue.specs.Queued.{Queued}

-- whether its lane has fewer alive runs than its own limit, or it has none
abbrev pub is_free : List Reg → Waiting → Bool
is_free alive item = has_room (lane_count item.lane.0 alive) item.cap

-- whether it may start at a moment
abbrev pub may_start : ℕ → List Reg → Waiting → Bool
may_start m alive item = nat_le item.ready m && is_free alive item

-- whether it comes before another: the lesser by the moment since which it is ready, then by number
abbrev pub is_before : Waiting → Waiting → Bool
is_before a b = nat_lt a.ready b.ready || ((a.ready == b.ready) && nat_lt a.req.0 b.req.0)

-- a try that may start
abbrev pub candidate : ℕ → List Reg → Waiting → Option Waiting
candidate m alive item = if may_start m alive item then Some item else None

-- the one of two that comes before the other
abbrev pub soonest : Option Waiting → Option Waiting → Option Waiting
soonest None b = b
soonest (Some a) None = Some a
soonest (Some a) (Some b) = Some (if is_before b a then b else a)

-- the first to start among these
abbrev pub first_among : ℕ → List Reg → List Waiting → Option Waiting
first_among m alive [] = None
first_among m alive (item ∷ items) = soonest (candidate m alive item) (first_among m alive items)

-- the first to start
abbrev pub first_of : ℕ → Queued → Option Waiting
first_of m q = first_among m q.alive q.waiting

-- whether any may start
abbrev pub any_may_start : ℕ → Queued → Bool
any_may_start m q = list_any (may_start m q.alive) q.waiting

-- it waits and may start, and no other that may start comes before it
pub record IsFirst (m : ℕ) (q : Queued) (item : Waiting) : Type 0 where
  pub waits : Contains q.waiting item
  pub starts : may_start m q.alive item ≡ true
  pub least : AllByRecursion (λ other. may_start m q.alive other ≡ true → is_before other item ≡ false) q.waiting
