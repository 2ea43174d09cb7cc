-- Behind a candidate whose query is not concluded nothing tells where an operation stands.
use Rattle.std.proofs.Common.{ℕ, List, [], ◌∷◌, false, true, is_some, ◌≡◌, ◌∙◌, refl, sym, Option, Some, None}
use Rattle.fnc_journal.specs.Acts.{Act}
use Rattle.fnc_journal.specs.Slots.{Task, QueriedDevice, Operation}
use Rattle.fnc_judge.specs.Tours.{Gathered, gathered_any}
use Rattle.fnc_judge.specs.Courses.{Course, coursed, coursed_all, stand, tried}

gathered-kept : (o : Operation) (m : ℕ) (acts : List Act) (g : Gathered) (t : Task) (q : Option Task) →
    g.unconcluded ≡ Some t → (gathered_any o m acts g q).unconcluded ≡ Some t
gathered-kept o m acts g t None e = e
gathered-kept o m acts g t (Some q) e = rw e refl

-- the first such query stays
coursed-kept : (o : Operation) (m : ℕ) (acts : List Act) (s : Course) (t : Task) (cs : List QueriedDevice) →
    s.queries.unconcluded ≡ Some t → (coursed_all o m acts s cs).queries.unconcluded ≡ Some t
coursed-kept o m acts s t [] e = e
coursed-kept o m acts s t (c ∷ cs) e =
    coursed-kept o m acts (coursed o m acts s c) t cs (gathered-kept o m acts s.queries t c.query e)

tried-waits : (s : Course) (t : Task) → s.queries.unconcluded ≡ Some t →
    stand (tried s) ≡ record { unconcluded = Some t; any = false; kept = None }
tried-waits s t e = rw e refl

pub stands-waiting : (o : Operation) (m : ℕ) (acts : List Act) (s : Course) (cs : List QueriedDevice) →
    is_some s.queries.unconcluded ≡ true → stand (tried s) ≡ stand (tried (coursed_all o m acts s cs))
stands-waiting o m acts s cs w = go s.queries.unconcluded refl w
  where
    go : (x : Option Task) → s.queries.unconcluded ≡ x → is_some x ≡ true →
        stand (tried s) ≡ stand (tried (coursed_all o m acts s cs))
    go None e k = cc
    go (Some t) e k =
        tried-waits s t e ∙ sym (tried-waits (coursed_all o m acts s cs) t (coursed-kept o m acts s t cs e))
