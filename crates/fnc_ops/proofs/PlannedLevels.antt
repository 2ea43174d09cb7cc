-- The levels of a plan rise by their numbers, and their slots are distinct.
use Rattle.std.proofs.Common.{ℕ, List, [], ◌∷◌, ◌≡◌, ◌≤◌, ◌<◌, ◌+◌, sym, subst, map, arith}
use Rattle.std.specs.List.{AllByRecursion}
use Rattle.fnc_journal.specs.declared.entry.Kind.{Kind}
use Rattle.fnc_journal.specs.declared.plan.Plan.{Plan}
use Rattle.fnc_journal.specs.declared.plan.PlanLevel.{PlanLevel}
use Rattle.fnc_journal.specs.History.{History}
use Rattle.fnc_journal.specs.Levels.{Level, scoped}
use Rattle.fnc_journal.specs.Plan.{Wanted, plan, plan_level}
use Rattle.fnc_journal.specs.Slots.{rank_of, place_of, slots_of}
use Rattle.fnc_journal.proofs.Each.{each-map}
use Rattle.fnc_journal.proofs.RisingLevels.{Above, Rising, scoped-rising}
use Rattle.fnc_stands.specs.Distinct.{AreDistinct}
use Rattle.fnc_stands.proofs.Distinct.{AreOfLevel, AreRising, rank-distinct, ranks-distinct}

-- the indices of levels are no less than a number
abbrev AreFrom : ℕ → List Level → Type 0
AreFrom n ls = AllByRecursion (λ (k : Level). n ≤ k.index) ls

from-zero : (ls : List Level) → AreFrom 0 ls
from-zero [] = tt
from-zero (l ∷ ls) = (omega arith, from-zero ls)

from-above : (i : ℕ) (ls : List Level) → Above i ls → AreFrom (i + 1) ls
from-above i ls a =
    each-map (λ (k : Level). i < k.index) (λ (k : Level). i + 1 ≤ k.index) ls (λ k p. omega (arith, p)) a

-- as levels of an operation
ranks-rising : (kind : Kind) (h : History) (n : ℕ) (ls : List Level) → AreFrom n ls → Rising ls →
    AreRising n (map (rank_of kind h) (map (plan_level h) ls))
ranks-rising kind h n [] a r = tt
ranks-rising kind h n (l ∷ ls) a r =
    (a.0, ranks-rising kind h (l.index + 1) ls (from-above l.index ls r.0) r.1)

ranks-each : (kind : Kind) (h : History) (ls : List PlanLevel) → AreOfLevel (map (rank_of kind h) ls)
ranks-each kind h [] = tt
ranks-each kind h (l ∷ ls) = (rank-distinct kind l.index (map (place_of kind h) l.devices), ranks-each kind h ls)

-- the slots of the levels of a plan
pub planned-distinct : (kind : Kind) (w : Wanted) (h : History) (p : Plan) → p ≡ plan w h →
    AreDistinct (slots_of (map (rank_of kind h) p.levels))
planned-distinct kind w h p e =
    let ls : List Level = scoped w.scope w.target h in
    ranks-distinct 0 (map (rank_of kind h) p.levels) (ranks-each kind h p.levels)
    (subst (λ (q : Plan). AreRising 0 (map (rank_of kind h) q.levels)) (sym e)
    (ranks-rising kind h 0 ls (from-zero ls) (scoped-rising w.scope w.target h)))
