-- What the judge gathers of the levels of an operation.
use Rattle.std.specs.Prelude.{ℕ, List, [], ◌∷◌, Bool, true, false, ◌||◌, ◌&&◌, if◌then◌else◌, nat_le, max, map}
use Rattle.std.specs.Prelude.{Option, Some, None, is_none}
use Rattle.std.specs.Option.{option_or}
use Rattle.fnc_journal.specs.declared.entry.Kind.{Kind}
use Rattle.fnc_journal.specs.History.{History}
use Rattle.fnc_journal.specs.Levels.{Level}
use Rattle.fnc_journal.specs.Plan.{plan_level}
use Rattle.fnc_journal.specs.Slots.{Task, Rank, Operation, rank_of}
use Rattle.fnc_journal.specs.Acts.{Act}
use Rattle.fnc_judge.specs.Places.{is_unfit, firsts_over, ons_over}
use Rattle.fnc_judge.specs.Tours.{Gathered, nothing, gathered_all}

-- a level that is not lost: its number, the slot at which it stands, and whether it is done
pub record Kept : Type 0 where
  pub index : ℕ
  pub standing : Option Task
  pub done : Bool

-- whether there are levels, the first that is not lost, and the last moment at which a slot was concluded
pub record Survey : Type 0 where
  pub any : Bool
  pub kept : Option Kept
  pub greatest : ℕ

-- of no levels
abbrev pub none : Survey
none = record { any = false; kept = None; greatest = 0 }

-- a level whose Act or Off slots and On slots say this
abbrev pub kept_by : ℕ → ℕ → ℕ → Gathered → Gathered → Kept
kept_by over m index firsts ons = record {
  index = index;
  standing = option_or firsts.unconfirmed ons.unconcluded;
  done = is_none firsts.unconfirmed && (is_none ons.unconcluded || nat_le over m);
}

-- with one more such level
abbrev pub surveyed_by : ℕ → ℕ → Survey → ℕ → Bool → Gathered → Gathered → Survey
surveyed_by over m s index unfit firsts ons = record {
  any = true;
  kept = option_or s.kept (if unfit || firsts.lost then None else Some (kept_by over m index firsts ons));
  greatest = max s.greatest (max firsts.greatest ons.greatest);
}

-- with one more level
abbrev pub surveyed : Operation → ℕ → List Act → Survey → Rank → Survey
surveyed o m acts s l =
    surveyed_by o.over m s l.index l.unfit
    (gathered_all o m acts nothing l.firsts) (gathered_all o m acts nothing l.ons)

-- with all these levels
abbrev pub surveyed_all : Operation → ℕ → List Act → Survey → List Rank → Survey
surveyed_all o m acts s [] = s
surveyed_all o m acts s (l ∷ ls) = surveyed_all o m acts (surveyed o m acts s l) ls

-- with one more level, if there is one
abbrev pub surveyed_any : Operation → ℕ → List Act → Survey → Option Rank → Survey
surveyed_any o m acts s None = s
surveyed_any o m acts s (Some l) = surveyed o m acts s l

-- whether an action on these nodes is split
abbrev pub is_split_over : Kind → List (List ℕ) → Bool
is_split_over Kind.Reboot (a ∷ b ∷ names) = true
is_split_over _ _ = false

-- a level with its slots, read off the names of its devices
abbrev pub rank_over : Kind → History → Level → Rank
rank_over kind before l = record {
  index = l.index;
  unfit = is_unfit kind before l.devices;
  firsts =
      if is_unfit kind before l.devices then []
      else firsts_over (is_split_over kind l.devices) kind before l.index 0 l.devices;
  ons =
      if is_unfit kind before l.devices then []
      else (if is_split_over kind l.devices then ons_over kind before l.index 0 l.devices else []);
}

-- the levels of an operation, as its slots are
abbrev pub ranks_for : Kind → History → List Level → List Rank
ranks_for kind before ls = map (rank_of kind before) (map (plan_level before) ls)
