-- What the judge gathers of the slots of a level or of all queries.
use Rattle.std.specs.Prelude.{ℕ, List, [], ◌∷◌, Bool, false, ◌||◌, ◌&&◌, not, if◌then◌else◌, max, Option, Some, None}
use Rattle.std.specs.Option.{option_or}
use Rattle.fnc_journal.specs.Slots.{Task, Operation}
use Rattle.fnc_journal.specs.Acts.{Act}
use Rattle.fnc_search.specs.declared.seen.Seen.{Seen}
use Rattle.fnc_search.specs.Seen.{seen_of, confirmed_by, spent_by, concluded_by, concluded_at_by}

-- the first slot that is not confirmed, the first that is not concluded, whether one is spent and not
-- confirmed, and the last moment at which one was concluded
pub record Gathered : Type 0 where
  pub unconfirmed : Option Task
  pub unconcluded : Option Task
  pub lost : Bool
  pub greatest : ℕ

-- of no slots
abbrev pub nothing : Gathered
nothing = record { unconfirmed = None; unconcluded = None; lost = false; greatest = 0 }

-- with one more slot, of which this was seen
abbrev pub gathered_by : ℕ → ℕ → Gathered → Task → Seen → Gathered
gathered_by m begin g t s = record {
  unconfirmed = option_or g.unconfirmed (if confirmed_by t s then None else Some t);
  unconcluded = option_or g.unconcluded (if concluded_by t m s then None else Some t);
  lost = g.lost || (spent_by t m s && not (confirmed_by t s));
  greatest = if concluded_by t m s then max g.greatest (concluded_at_by t begin s) else g.greatest;
}

-- with one more slot
abbrev pub gathered : Operation → ℕ → List Act → Gathered → Task → Gathered
gathered o m acts g t = gathered_by m o.begin g t (seen_of t o.over acts)

-- with all these slots
abbrev pub gathered_all : Operation → ℕ → List Act → Gathered → List Task → Gathered
gathered_all o m acts g [] = g
gathered_all o m acts g (t ∷ ts) = gathered_all o m acts (gathered o m acts g t) ts

-- with one more slot, if there is one
abbrev pub gathered_any : Operation → ℕ → List Act → Gathered → Option Task → Gathered
gathered_any o m acts g None = g
gathered_any o m acts g (Some t) = gathered o m acts g t
