-- A plan that is written down is the one that is found, where each of its pieces is.
use Rattle.std.proofs.Common.{
  List,
  [],
  ◌∷◌,
  Bool,
  true,
  false,
  ◌≡◌,
  ◌==◌,
  refl,
  sym,
  ap,
  ◌∙◌,
  Option,
  Some,
  None,
  length,
  map,
  arith,
  eqb-true,
}
use Rattle.std.specs.Bool.{OnTrue}
use Rattle.fnc_journal.specs.declared.plan.PlanLevel.{PlanLevel}
use Rattle.fnc_journal.specs.History.{History}
use Rattle.fnc_journal.specs.Missing.{first_of}
use Rattle.fnc_journal.specs.Levels.{Level}
use Rattle.fnc_journal.specs.Plan.{plan_level, candidates_among}
use Rattle.fnc_search.specs.declared.candidates.After.{After}
use Rattle.fnc_search.specs.Keyed.{Keyed, key, later}
use Rattle.fnc_search.specs.Pursued.{Pursued, wanted}
use Rattle.fnc_search.specs.Written.{level_before}
use Rattle.fnc_search.proofs.Ordered.{later-none, devices-same}
use Rattle.fnc_search.proofs.Queue.{keyed_of, rest-later}
use Rattle.fnc_search.proofs.Rising.{before_it}

-- a level before others, as it is written
pub written-before : (h : History) (l : Option Level) (ls : List Level) →
    level_before h l (map (plan_level h) ls) ≡ map (plan_level h) (before_it l ls)
written-before h None ls = refl
written-before h (Some l) ls = refl

-- nothing is left where no levels are
pub levels-over : (h : History) (written : List PlanLevel) (ls : List Level) (b : Bool) → b ≡ (length written == 0) →
    ls ≡ [] → {P : Type 0} →
    (written ≡ map (plan_level h) ls → P) → OnTrue b P
levels-over h written ls false e n {P} k = tt
levels-over h [] ls true e n {P} k = k (sym (ap (map (plan_level h)) n))
levels-over h (l ∷ written) ls true e n {P} k =
    let over = eqb-true (length (l ∷ written)) 0 (sym e) in absurd (omega (arith, over))

-- all candidates are later than none
pub candidates-all : (p : Pursued) →
    map (λ (c : Keyed). c.device) (later None (keyed_of p)) ≡ candidates_among (wanted p) p.asked.before p.asked.before
candidates-all p =
    ap (λ cs. map (λ (c : Keyed). c.device) cs) (later-none (keyed_of p))
    ∙ devices-same (wanted p) p.asked.before p.asked.before

-- the devices of those that are later, with the first of them in front
pub devices-next : (p : Pursued) (k : Option After) (c : Keyed) → first_of (later k (keyed_of p)) ≡ Some c →
    map (λ (c : Keyed). c.device) (later k (keyed_of p))
    ≡ c.device ∷ map (λ (c : Keyed). c.device) (later (Some (key c)) (keyed_of p))
devices-next p k c e = ap (λ cs. map (λ (c : Keyed). c.device) cs) (rest-later p k c e)
