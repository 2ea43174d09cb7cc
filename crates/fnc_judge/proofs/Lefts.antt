-- What is gathered of the candidates that are left.
use Rattle.std.proofs.Common.{ℕ, List, Bool, true, false, ◌≡◌, ◌≤◌, ◌+◌, cond, refl, ap, ◌∙◌, Option, Some, None, arith}
use Rattle.std.specs.List.{cons_option}
use Rattle.fnc_journal.specs.Missing.{first_of}
use Rattle.fnc_journal.specs.Slots.{Operation, QueriedDevice}
use Rattle.fnc_journal.specs.Acts.{Act}
use Rattle.fnc_journal.specs.Standing.{capable_query}
use Rattle.fnc_search.specs.declared.candidates.After.{After}
use Rattle.fnc_search.specs.Keyed.{Keyed, key, later}
use Rattle.fnc_search.specs.Pursued.{Pursued, queried_at}
use Rattle.fnc_search.proofs.Queue.{keyed_of, left, queued, rest-later}
use Rattle.fnc_judge.specs.Courses.{Course, coursed_any, coursed_all}

coursed-cons : (o : Operation) (m : ℕ) (acts : List Act) (s : Course) (c : Option QueriedDevice)
    (cs : List QueriedDevice) →
    coursed_all o m acts s (cons_option c cs) ≡ coursed_all o m acts (coursed_any o m acts s c) cs
coursed-cons o m acts s None cs = refl
coursed-cons o m acts s (Some c) cs = refl

pub left-more : (o : Operation) (m : ℕ) (acts : List Act) (s : Course) (p : Pursued) (k : Option After) (c : Keyed)
    (place : ℕ) → first_of (later k (keyed_of p)) ≡ Some c →
    coursed_all o m acts s (left p k place)
    ≡ coursed_all o m acts (coursed_any o m acts s (queried_at p place c.device))
    (left p (Some (key c)) (place + 1))
left-more o m acts s p k c place e =
    ap (λ cs. coursed_all o m acts s (queued p place cs)) (rest-later p k c e)
    ∙ coursed-cons o m acts s (queried_at p place c.device) (left p (Some (key c)) (place + 1))

-- the next level of the candidates has no great number
pub index-more : (o : Operation) (m : ℕ) (acts : List Act) (s : Course) (c : Option QueriedDevice) (n : ℕ) →
    s.index ≤ n → (coursed_any o m acts s c).index ≤ n + 1
index-more o m acts s None n l = omega (arith, l)
index-more o m acts s (Some c) n l = go (capable_query o acts c.query)
  where
    go : (b : Bool) → cond b (s.index + 1) s.index ≤ n + 1
    go true = omega (arith, l)
    go false = omega (arith, l)
