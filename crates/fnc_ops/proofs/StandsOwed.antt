-- A start of the try that an operation waits for takes one entry from what is owed: its run owes an exit, and the try
-- no start and exit any more.
use Rattle.std.proofs.Common.{
  ℕ,
  List,
  [],
  ◌∷◌,
  Bool,
  true,
  false,
  ◌≡◌,
  ◌≤◌,
  ◌+◌,
  ◌*◌,
  ◌==◌,
  refl,
  ap,
  ap₂,
  ◌∙◌,
  subst,
  Some,
  cond,
  arith,
  length,
  eqb-true,
}
use Rattle.std.specs.Prelude.{find, option_and_then, map}
use Rattle.std.specs.List.{AllZip, AllByRecursion}
use Rattle.fnc_journal.specs.declared.event.Start.{Start}
use Rattle.fnc_journal.specs.History.{History}
use Rattle.fnc_journal.specs.Found.{starts}
use Rattle.fnc_journal.specs.Slots.{Operation}
use Rattle.fnc_journal.specs.Acts.{Act, acts, begun}
use Rattle.fnc_journal.specs.Lawful.{Lawful}
use Rattle.fnc_journal.specs.Startable.{alive_runs}
use Rattle.fnc_journal.specs.Operations.{open_operations, unanswered, settled}
use Rattle.fnc_journal.specs.Owed.{untried, owed_by, owed_by_all, owed}
use Rattle.fnc_journal.proofs.ActsLemmas.{acts-start, acts-other_start}
use Rattle.fnc_records.specs.KeptOperation.{KeptOperation}
use Rattle.fnc_records.specs.LevelRecords.{level_started}
use Rattle.fnc_records.specs.OperationFacts.{left_levels}
use Rattle.fnc_ops.specs.Stands.{StandEach, AreAt, Try, AwaitsTry, try_of, start_entry, of_try}
use Rattle.fnc_ops.proofs.AliveCounts.{alive-started}
use Rattle.fnc_ops.proofs.Apart.{AreApart}
use Rattle.fnc_ops.proofs.OpenOperations.{number_of, open-apart}
use Rattle.fnc_ops.proofs.StandsSteps.{takes-one}
use Rattle.fnc_ops.proofs.StandsTries.{IsAt, each-at}

module _ (h : History) (m : ℕ) (start : Start) (y : Try) where
  abbrev after : History
  after = start_entry m (of_try y start) ∷ h

  -- what an operation owes by its acts
  abbrev owed_after : Operation → List Act → ℕ
  owed_after o xs = length (unanswered o.req h) + 2 * untried o xs

  -- the operation that waits for the try
  owes-less : (r : KeptOperation) (o : Operation) → IsAt h m r o → try_of h m o ≡ Some y →
      (o.req == start.req.0) ≡ true → owed_by after o + 2 ≡ owed_by h o
  owes-less r o k w same =
      let less : left_levels (map (level_started y.task.slot m) r.levels) + 1 ≤ left_levels r.levels =
      takes-one h m start y r o k w in
      let enough : left_levels r.levels ≤ r.untried = k.stands.enough in
      let kept : r.untried ≡ untried o (acts o.req h) = k.stands.untried_is in
      let one : begun (Act.Begun m start.run.0 y.task.slot ∷ acts o.req h) ≡ begun (acts o.req h) + 1 = refl in
      let now : untried o (Act.Begun m start.run.0 y.task.slot ∷ acts o.req h) + 1 ≡ untried o (acts o.req h) =
      omega (arith, less, enough, kept, one) in
      ap (λ xs. owed_after o xs + 2) (acts-start o.req m (of_try y start) h same) ∙ omega (arith, now)

  -- another one
  owes-same : (o : Operation) → (o.req == start.req.0) ≡ false → owed_by after o ≡ owed_by h o
  owes-same o other = ap (owed_after o) (acts-other_start o.req m (of_try y start) h other)

  others-owe : (os : List Operation) → AllByRecursion (λ (o : Operation). (o.req == start.req.0) ≡ false) os →
      owed_by_all after os ≡ owed_by_all h os
  others-owe [] a = refl
  others-owe (o ∷ os) a = ap₂ ◌+◌ (owes-same o a.0) (others-owe os a.1)

  all-owe : (rs : List KeptOperation) (os : List Operation) → AllZip (IsAt h m) rs os → AreApart number_of os →
      option_and_then (try_of h m) (find (λ o. o.req == start.req.0) os) ≡ Some y →
      owed_by_all after os + 2 ≡ owed_by_all h os
  all-owe [] [] z d w = cc
  all-owe [] (o ∷ os) z d w = absurd z
  all-owe (r ∷ rs) [] z d w = absurd z
  all-owe (r ∷ rs) (o ∷ os) z d w = go (o.req == start.req.0) refl w (λ k. all-owe rs os z.1 d.1 k)
    where
      go : (b : Bool) → (o.req == start.req.0) ≡ b → option_and_then (try_of h m)
          (cond b (Some o) (find (λ o. o.req == start.req.0) os)) ≡ Some y →
          (option_and_then (try_of h m) (find (λ o. o.req == start.req.0) os) ≡ Some y →
          owed_by_all after os + 2 ≡ owed_by_all h os) → owed_by_all after (o ∷ os) + 2 ≡ owed_by_all h (o ∷ os)
      go true e f ih =
          let here : owed_by after o + 2 ≡ owed_by h o = owes-less r o z.0 f e in
          let rest : owed_by_all after os ≡ owed_by_all h os =
          others-owe os (subst (λ n. AllByRecursion (λ (q : Operation). (q.req == n) ≡ false) os)
          (eqb-true o.req start.req.0 e) d.0) in
          omega (arith, here, rest)
      go false e f ih =
          let here : owed_by after o ≡ owed_by h o = owes-same o e in
          let rest : owed_by_all after os + 2 ≡ owed_by_all h os = ih f in
          omega (arith, here, rest)

  pub owed-started : Lawful h → start.run.0 ≡ starts h → settled h m ≡ true → (rs : List KeptOperation) →
      StandEach rs h → AreAt m rs → AwaitsTry h m start.req.0 y → owed after + 1 ≡ owed h
  owed-started l n s rs z a w =
      let alive : length (alive_runs after) ≡ length (alive_runs h) + 1 = alive-started h l m (of_try y start) n in
      let all : owed_by_all after (open_operations h) + 2 ≡ owed_by_all h (open_operations h) =
      all-owe rs (open_operations h) (each-at h m rs s a z) (open-apart h l) w in
      omega (arith, alive, all)
