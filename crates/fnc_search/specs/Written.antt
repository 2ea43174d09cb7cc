-- A plan that is written down, compared piece by piece.
use Rattle.std.specs.Prelude.{List, ◌∷◌, Option, Some, None}
use Rattle.fnc_journal.specs.declared.plan.PlanLevel.{PlanLevel}
use Rattle.fnc_journal.specs.History.{History}
use Rattle.fnc_journal.specs.Levels.{Level}
use Rattle.fnc_journal.specs.Plan.{plan_level}

-- a level of the plan, if there is one, and what comes after it
abbrev pub level_before : History → Option Level → List PlanLevel → List PlanLevel
level_before h None rest = rest
level_before h (Some l) rest = plan_level h l ∷ rest
