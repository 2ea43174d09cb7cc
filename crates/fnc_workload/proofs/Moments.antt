-- No line of a workload comes more than two seconds after the one before it.
use Rattle.std.proofs.Common.{ℕ, Bool, true, false, ◌≡◌, ◌≤◌, ◌<◌, ◌+◌, ◌/◌, ◌==◌, cond, refl, subst, Option, Some, None, arith, ltb}
use Rattle.std.proofs.Math.Nat.{mod-lt}
use Rattle.fnc_workload.specs.Steps.{asking, below, closing, drawn, ending, next, opening, passing, step, stepping}
use Rattle.fnc_workload.specs.declared.making.Making.{Making}
use Rattle.fnc_workload.specs.declared.making.Next.{Next}

moment-stepping : (w m x made : ℕ) (alive : Option ℕ) → (stepping w m x made alive).making.moment ≡ m
moment-stepping w m x made alive = go (w == 0) (w == 3) alive
  where
    go : (a b : Bool) (alive : Option ℕ) →
        (cond a (asking m x made)
        (cond b (passing m x made)
        (elim alive [ None ↦ passing m x made | Some run ↦ ending m x made run ]))).making.moment ≡ m
    go true b alive = refl
    go false true alive = refl
    go false false None = refl
    go false false (Some run) = refl

some-of : {X : Type 0} (x y : X) → Some x ≡ Some y → x ≡ y
some-of x y q = cc

pub soon : (s : Making) (count : ℕ) (alive : Option ℕ) (n : Next) → next s count alive ≡ Some n →
    n.making.moment ≤ s.moment + 2000
soon s count alive n q = go (ltb s.made 72) (ltb s.made (72 + count)) alive q
  where
    few : below (drawn s.state) 2000 < 2000
    few = mod-lt (drawn s.state / 8589934592) (omega arith)

    same : (m : Next) → Some m ≡ Some n → m.making.moment ≤ s.moment + 2000 → n.making.moment ≤ s.moment + 2000
    same m e k = subst (λ (x : Next). x.making.moment ≤ s.moment + 2000) (some-of m n e) k

    go : (a b : Bool) (living : Option ℕ) →
        cond a (Some (record { line = opening s.made; making = record s { made = s.made + 1 } }))
        (cond b (Some (step s alive)) (closing s living)) ≡ Some n →
        n.making.moment ≤ s.moment + 2000
    go true b living q = same _ q (omega arith)
    go false true living q =
        same (step s alive) q
        (let at = moment-stepping (below (drawn (drawn s.state)) 4) (s.moment + below (drawn s.state) 2000)
        (drawn (drawn s.state)) s.made alive in omega (arith, at, few))
    go false false None q = absurd (none q)
      where
        none : None ≡ Some n → ⊥
        none q = cc
    go false false (Some run) q = same _ q (omega arith)
