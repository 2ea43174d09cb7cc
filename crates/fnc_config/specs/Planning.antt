-- How a plan is made: of what a configuration has of levels and devices, and of what a journal says of their runs.
use Rattle.std.specs.Prelude.{
  ℕ,
  ℤ,
  List,
  [],
  ◌∷◌,
  Bool,
  false,
  ◌==◌,
  ◌+◌,
  ◌&&◌,
  nat_le,
  int_lt,
  if◌then◌else◌,
  Option,
  Some,
  None,
  bytes_eq,
  map,
  option_map,
  unwrap_or,
}
use Rattle.std.specs.Option.{option_or}
use Rattle.fnc_journal.specs.declared.definition.Registration.{Registration}
use Rattle.fnc_journal.specs.declared.entry.Kind.{Kind}
use Rattle.fnc_journal.specs.declared.entry.Reg.{Reg}
use Rattle.fnc_journal.specs.declared.entry.Scope.{Scope}
use Rattle.fnc_journal.specs.declared.event.Event.{Event}
use Rattle.fnc_journal.specs.declared.event.Request.{Request}
use Rattle.fnc_journal.specs.declared.event.Start.{Start}
use Rattle.fnc_journal.specs.declared.plan.Candidate.{Candidate}
use Rattle.fnc_journal.specs.declared.plan.PlanLevel.{PlanLevel}
use Rattle.fnc_journal.specs.Device.{Device, names}
use Rattle.fnc_journal.specs.Exits.{is_success}
use Rattle.fnc_journal.specs.Found.{registration, request, started}
use Rattle.fnc_journal.specs.History.{History}
use Rattle.fnc_journal.specs.Levels.{Level, pattern_at}
use Rattle.fnc_journal.specs.Plan.{Wanted, candidate, is_candidate, reg_of}
use Rattle.fnc_journal.specs.Same.{same_kind}
use Rattle.fnc_config.specs.declared.candidates.Ranked.{Ranked}
use Rattle.fnc_config.specs.Configured.{Configured, Numbered, levels_of, number_of}

-- the levels of the pattern of an entry
abbrev pub levels_at : Option (List ℕ) → Configured → List Level
levels_at None c = []
levels_at (Some text) c = levels_of text c.patterns

-- the levels that a scope speaks of
abbrev pub scoped_in : Scope → List ℕ → History → Configured → List Level
scoped_in Scope.Nothing target h c = []
scoped_in Scope.Name target h c = levels_of target c.names
scoped_in (Scope.Pattern n) target h c = levels_at (pattern_at n h) c

-- devices by their numbers
abbrev pub places_in : Numbered → List (List ℕ) → List (Option Reg)
places_in ds names = map (λ name. option_map reg_of (number_of name ds)) names

-- a level with its devices by their numbers
abbrev pub plan_level_in : Numbered → Level → PlanLevel
plan_level_in ds l = record { index = l.index; devices = places_in ds l.devices }

-- whether a request is for this target
abbrev pub is_request_for : List ℕ → Option Request → Bool
is_request_for target q = unwrap_or (option_map (λ (q : Request). bytes_eq target q.target) q) false

-- whether a start asked a registration for its list, for a request of this target
abbrev pub is_list_start : History → ℕ → List ℕ → Start → Bool
is_list_start h reg target s =
    (reg == s.reg.0) && same_kind Kind.List s.kind && is_request_for target (request s.req.0 h)

-- what a successful exit of such a run says
abbrev pub listed_by : History → ℕ → List ℕ → Event → Option Bool
listed_by h reg target (Event.Exit ended) =
    if is_success Kind.List ended.exit
    && unwrap_or (option_map (is_list_start h reg target) (started ended.run.0 h)) false
    then Some ended.listed
    else None
listed_by h reg target _ = None

-- the last of these that is still kept: it is sought from the newest entry back, as far as anything is kept
abbrev pub kept_among : History → ℕ → List ℕ → ℕ → ℕ → History → Option Bool
kept_among h reg target keep m [] = None
kept_among h reg target keep m (e ∷ es) =
    if nat_le (e.moment + keep) m then None
    else option_or (listed_by h reg target e.event) (kept_among h reg target keep m es)

-- a device as a candidate, with its priority
abbrev pub ranked : Wanted → History → Device → Ranked
ranked w h d = record { priority = d.definition.priority; candidate = candidate w h d }

-- the same of a device that is one
abbrev pub ranked_if : Wanted → History → Device → Option Ranked
ranked_if w h d = if is_candidate w h d then Some (ranked w h d) else None

-- the same of a registration
abbrev pub ranked_by : Wanted → History → ℕ → Option Registration → Option Ranked
ranked_by w h reg None = None
ranked_by w h reg (Some r) = ranked_if w h (record { reg = reg; definition = r.definition })

-- how many come before one of this priority: those until the first of a lesser one
abbrev pub place_among : ℤ → List Ranked → ℕ
place_among p [] = 0
place_among p (r ∷ rs) = if int_lt r.priority p then 0 else place_among p rs + 1

-- with one more, by falling priority
abbrev pub with_ranked : Ranked → List Ranked → List Ranked
with_ranked r [] = r ∷ []
with_ranked r (k ∷ ks) = if int_lt k.priority r.priority then r ∷ k ∷ ks else k ∷ with_ranked r ks

-- with one more, if there is one
abbrev pub with_some : Option Ranked → List Ranked → List Ranked
with_some None rs = rs
with_some (Some r) rs = with_ranked r rs

-- with those of these registrations
abbrev pub with_all : Wanted → History → List ℕ → List Ranked → List Ranked
with_all w h [] rs = rs
with_all w h (n ∷ ns) rs = with_all w h ns (with_some (ranked_by w h n (registration n h)) rs)

-- the candidates among these registrations
abbrev pub candidates_in : Wanted → History → Numbered → List Candidate
candidates_in w h ds = map (λ (r : Ranked). r.candidate) (with_all w h (map (λ e. e.1) ds) [])
