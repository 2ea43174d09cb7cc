-- The allowed tries of the slots that a plan gives an operation, by the devices of its levels or candidates.
-- Sums are cut where they would not fit; of a plan within its bounds none is.
use Rattle.std.specs.Prelude.{
  ℕ,
  List,
  [],
  ◌∷◌,
  Bool,
  false,
  ◌+◌,
  ◌&&◌,
  if◌then◌else◌,
  map,
  length,
  is_none,
  Option,
  Some,
  None,
}
use Rattle.std.specs.List.{list_any}
use Rattle.fnc_journal.specs.declared.definition.Definition.{Definition}
use Rattle.fnc_journal.specs.declared.entry.Kind.{Kind}
use Rattle.fnc_journal.specs.declared.plan.Candidate.{Candidate}
use Rattle.fnc_journal.specs.declared.plan.Plan.{Plan}
use Rattle.fnc_journal.specs.declared.plan.PlanLevel.{PlanLevel}
use Rattle.fnc_journal.specs.Device.{Device, allowed}
use Rattle.fnc_journal.specs.History.{History}
use Rattle.fnc_journal.specs.Slots.{acting, device_of, place_of, is_levelled}
use Rattle.fnc_ops.specs.FreshRecords.{splits}
use Rattle.fnc_records.specs.SlotRecords.{capped}

-- a number with these added
abbrev pub sum_from : ℕ → List ℕ → ℕ
sum_from n [] = n
sum_from n (x ∷ xs) = sum_from (capped 32 (n + x)) xs

-- the tries of an action
abbrev pub action_tries : Definition → Kind → ℕ
action_tries d kind = (allowed d kind).tries

-- the tries of a device's Act slot, or of its Off slot where the action is split
abbrev pub first_tries : Bool → Kind → Definition → ℕ
first_tries split kind d = if split then action_tries d Kind.Off else action_tries d (acting kind d)

-- the tries of a device's On slot, where it has one
abbrev pub on_tries : Bool → Definition → ℕ
on_tries split d = if split && d.actions.on then action_tries d Kind.On else 0

-- the tries of a device's Act or Off slot and of its On slot, where the device is there
abbrev pub place_tries : Bool → Kind → Option Device → ℕ
place_tries split kind None = 0
place_tries split kind (Some d) = capped 32 (first_tries split kind d.definition + on_tries split d.definition)

-- the tries of all slots of a level, which has none where one of its devices is unfit
abbrev pub level_tries : Kind → History → PlanLevel → ℕ
level_tries kind h l =
    if list_any (λ p. is_none (place_of kind h p)) l.devices then 0
    else sum_from 0 (map (λ p. place_tries (splits kind (length l.devices)) kind (place_of kind h p)) l.devices)

-- the tries of a query that may not be there
abbrev pub query_tries : Definition → Option Kind → ℕ
query_tries d None = 0
query_tries d (Some kind) = action_tries d kind

-- the tries of a candidate's Act slot, which it has where no levels are tried
abbrev pub act_tries : Bool → Kind → Definition → ℕ
act_tries levelled kind d = if levelled then 0 else first_tries false kind d

-- the tries of a candidate's query and of its Act slot, where the device is there
abbrev pub device_tries : Bool → Kind → Option Kind → Option Device → ℕ
device_tries levelled kind query None = 0
device_tries levelled kind query (Some d) =
    capped 32 (query_tries d.definition query + act_tries levelled kind d.definition)

-- the tries of a candidate
abbrev pub candidate_tries : Bool → Kind → History → Candidate → ℕ
candidate_tries levelled kind h c = device_tries levelled kind c.query (device_of h c.reg)

-- the tries of the levels, where these are tried
abbrev pub ranked_tries : Bool → Kind → History → List PlanLevel → ℕ
ranked_tries levelled kind h ls = if levelled then sum_from 0 (map (level_tries kind h) ls) else 0

-- the tries of all slots
abbrev pub plan_tries : Kind → History → Plan → ℕ
plan_tries kind h p =
    capped 32
    (sum_from 0 (map (candidate_tries (is_levelled p.scope) kind h) p.candidates)
    + ranked_tries (is_levelled p.scope) kind h p.levels)
