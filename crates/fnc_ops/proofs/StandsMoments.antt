-- The records stand for the journal at a later moment.
use Rattle.std.proofs.Common.{
  ℕ,
  List,
  [],
  ◌∷◌,
  Bool,
  true,
  false,
  ◌≡◌,
  ◌≤◌,
  ◌==◌,
  refl,
  ap,
  ap₂,
  sym,
  ◌∙◌,
  subst,
  Option,
  Some,
  None,
  cond,
  map,
  nat_lt,
  ◌||◌,
}
use Rattle.std.specs.Prelude.{option_map, option_and_then, is_none}
use Rattle.std.specs.List.{AllZip}
use Rattle.fnc_journal.specs.declared.entry.Req.{Req}
use Rattle.fnc_journal.specs.History.{History}
use Rattle.fnc_journal.specs.Slots.{Task, Operation}
use Rattle.fnc_journal.specs.Acts.{acts, end}
use Rattle.fnc_journal.specs.Operations.{open_operations, stands_at}
use Rattle.fnc_ops.specs.declared.records.Expiry.{Expiry}
use Rattle.fnc_records.specs.declared.slot.SlotRecord.{SlotRecord}
use Rattle.fnc_records.specs.KeptOperation.{KeptOperation}
use Rattle.fnc_records.specs.SlotFacts.{BothOr}
use Rattle.fnc_records.specs.SlotRecords.{come_by}
use Rattle.fnc_records.specs.OperationFacts.{IsOperation}
use Rattle.fnc_records.specs.OperationRecords.{at_moment, standing_slot, at_moment_unless_ending, expired_at}
use Rattle.fnc_ops.specs.OpsRecords.{expiry_by, expiry_of, sooner, first_expiry, first_expired, moved}
use Rattle.fnc_ops.specs.Stands.{
  Stands,
  StandEach,
  AreAt,
  AreBy,
  Ending,
  ending,
  ending_of,
  sooner_ending,
  first_ending,
  first_ended,
  numbers,
  AreAtButEnding,
}
use Rattle.fnc_records.proofs.OperationAnswers.{IsShortSlot, standing_slot_is}
use Rattle.fnc_records.proofs.OperationSteps.{operation-later}
use Rattle.fnc_ops.proofs.StandsExits.{moment-ranked, members-ranked, confirmed-ranked, untried-ranked, enough-ranked}

-- the first that has come to its end
abbrev shown : Expiry → Ending
shown e = record { req = e.req.0; at = e.end }

come_of : (o : Operation) (h : History) (m : ℕ) (x : Option SlotRecord) (y : Option Task) →
    BothOr (IsShortSlot o (acts o.req h)) x y →
    option_and_then (λ (s : SlotRecord). come_by m s.end) x ≡ option_and_then (λ t. come_by m (end t (acts o.req h))) y
come_of o h m None None b = refl
come_of o h m None (Some t) b = absurd b
come_of o h m (Some s) None b = absurd b
come_of o h m (Some s) (Some t) b = ap (come_by m) b.is.end_is

ending-is : (h : History) (m : ℕ) (r : KeptOperation) (o : Operation) → Stands h r o →
    option_map shown (expiry_of m r) ≡ ending_of h r.moment m o
ending-is h m r o s = ap (λ x. option_map shown (expiry_by r x)) (come_of o h m (standing_slot r.moment r)
    (stands_at h r.moment o) (standing_slot_is o r.moment (acts o.req h) r s.operation))
    ∙ go (option_and_then (λ t. come_by m (end t (acts o.req h))) (stands_at h r.moment o))
  where
    go : (x : Option ℕ) → option_map shown (expiry_by r x) ≡ ending o x
    go None = refl
    go (Some at) = ap (λ n. Some (record { req = n; at = at })) s.operation.req

sooner-shown : (a b : Option Expiry) → option_map shown (sooner a b) ≡ sooner_ending (option_map shown a)
    (option_map shown b)
sooner-shown None b = refl
sooner-shown (Some a) None = refl
sooner-shown (Some a) (Some b) = go (nat_lt b.end a.end)
  where
    go : (c : Bool) → ◌≡◌ {A = Option Ending} (Some (shown (cond c b a))) (Some (cond c (shown b) (shown a)))
    go true = refl
    go false = refl

first-is : (h : History) (m : ℕ) (rs : List KeptOperation) (os : List Operation) → AllZip (Stands h) rs os →
    option_map shown (first_expiry m rs) ≡ first_ending h m rs os
first-is h m [] [] z = refl
first-is h m [] (o ∷ os) z = absurd z
first-is h m (r ∷ rs) [] z = absurd z
first-is h m (r ∷ rs) (o ∷ os) z = sooner-shown (expiry_of m r) (first_expiry m rs) ∙ ap₂ sooner_ending
    (ending-is h m r o z.0) (first-is h m rs os z.1)

pub first-expired : (h : History) (m : ℕ) (rs : List KeptOperation) (x : Option Req) → x ≡ first_expired m rs →
    StandEach rs h → option_map (λ (r : Req). r.0) x ≡ first_ended h m rs
first-expired h m rs x e z = ap (option_map (λ (r : Req). r.0)) e ∙ go (first_expiry m rs)
    ∙ ap (option_map (λ (e : Ending). e.req)) (first-is h m rs (open_operations h) z)
  where
    go : (y : Option Expiry) → option_map (λ (r : Req). r.0) (option_map (λ (e : Expiry). e.req) y) ≡ option_map
        (λ (e : Ending). e.req) (option_map shown y)
    go None = refl
    go (Some e) = refl

-- a record at a later moment
later-one : (h : History) (m : ℕ) (r : KeptOperation) (o : Operation) → r.moment ≤ m → Stands h r o →
    Stands h (at_moment m r) o
later-one h m r o le s = record {
  operation = subst (λ n. IsOperation n (acts o.req h) (at_moment m r) o)
      (sym (moment-ranked m (record r { moment = m }))) (operation-later o r.moment m (acts o.req h) le r s.operation);
  waiting_are = ap numbers (members-ranked m (record r { moment = m })) ∙ s.waiting_are;
  confirmed_is = confirmed-ranked m (record r { moment = m }) ∙ s.confirmed_is;
  untried_is = untried-ranked m (record r { moment = m }) ∙ s.untried_is;
  enough = enough-ranked m (record r { moment = m }) s.enough;
  few_runs = s.few_runs;
}

later-of : (h : History) (m req : ℕ) (r : KeptOperation) (o : Operation) → r.moment ≤ m → Stands h r o →
    Stands h (at_moment_unless_ending req m r) o
later-of h m req r o le s = go ((r.req == req) || is_none (expired_at m r))
  where
    go : (b : Bool) → Stands h (cond b (at_moment m r) r) o
    go true = later-one h m r o le s
    go false = s

later-each : (h : History) (m : ℕ) (f : KeptOperation → KeptOperation) → ((r : KeptOperation) (o : Operation) →
    r.moment ≤ m → Stands h r o → Stands h (f r) o) →
    (rs : List KeptOperation) (os : List Operation) → AreBy m rs → AllZip (Stands h) rs os →
    AllZip (Stands h) (map f rs) os
later-each h m f k [] [] a z = tt
later-each h m f k [] (o ∷ os) a z = absurd z
later-each h m f k (r ∷ rs) [] a z = absurd z
later-each h m f k (r ∷ rs) (o ∷ os) a z = (k r o a.0 z.0, later-each h m f k rs os a.1 z.1)

pub stands-moved : (h : History) (m : ℕ) (rs : List KeptOperation) (x : Option Req) → AreBy m rs → StandEach rs h →
    StandEach (moved x m rs) h
stands-moved h m rs None a z = later-each h m (at_moment m) (later-one h m) rs (open_operations h) a z
stands-moved h m rs (Some req) a z =
    later-each h m (at_moment_unless_ending req.0 m) (later-of h m req.0) rs (open_operations h) a z

pub all-moved : (m : ℕ) (rs : List KeptOperation) → AreAt m (map (at_moment m) rs)
all-moved m [] = tt
all-moved m (r ∷ rs) = (moment-ranked m (record r { moment = m }), all-moved m rs)

-- a record of which nothing comes to its end speaks at the moment
module _ (h : History) (m : ℕ) where
  abbrev IsAtOrEnds : KeptOperation → Operation → Type 0
  IsAtOrEnds r o = ending_of h r.moment m o ≡ None → r.moment ≡ m

  none-ends : (r : KeptOperation) (x : Option ℕ) → is_none x ≡ false → option_map shown (expiry_by r x) ≡ None → ⊥
  none-ends r None k e = cc
  none-ends r (Some at) k e = cc

  unless-ending : (req : ℕ) (r : KeptOperation) (o : Operation) → Stands h r o →
      IsAtOrEnds (at_moment_unless_ending req m r) o
  unless-ending req r o s = go (r.req == req) (is_none (expired_at m r)) refl
    where
      go : (b c : Bool) → is_none (expired_at m r) ≡ c → IsAtOrEnds (cond (b || c) (at_moment m r) r) o
      go true c k e = moment-ranked m (record r { moment = m })
      go false true k e = moment-ranked m (record r { moment = m })
      go false false k e = absurd (none-ends r (expired_at m r) k (ending-is h m r o s ∙ e))

  each-moved : (x : Option Req) (rs : List KeptOperation) (os : List Operation) → AllZip (Stands h) rs os →
      AllZip IsAtOrEnds (moved x m rs) os
  each-moved None [] [] z = tt
  each-moved (Some req) [] [] z = tt
  each-moved None [] (o ∷ os) z = absurd z
  each-moved (Some req) [] (o ∷ os) z = absurd z
  each-moved None (r ∷ rs) [] z = absurd z
  each-moved (Some req) (r ∷ rs) [] z = absurd z
  each-moved None (r ∷ rs) (o ∷ os) z =
      ((λ e. moment-ranked m (record r { moment = m })), each-moved None rs os z.1)
  each-moved (Some req) (r ∷ rs) (o ∷ os) z = (unless-ending req.0 r o z.0, each-moved (Some req) rs os z.1)

  pub others-moved : (x : Option Req) (rs : List KeptOperation) → StandEach rs h → AreAtButEnding h m (moved x m rs)
  others-moved x rs z = each-moved x rs (open_operations h) z
