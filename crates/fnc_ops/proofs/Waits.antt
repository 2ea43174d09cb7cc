-- What an operation waits for, at which moments the records speak and which numbers they have,
-- after a change of one record or of all.
use Rattle.std.proofs.Common.{
  ℕ,
  List,
  [],
  ◌∷◌,
  Bool,
  true,
  false,
  ◌≡◌,
  ◌==◌,
  refl,
  ap,
  ap₂,
  sym,
  ◌∙◌,
  Option,
  Some,
  None,
  cond,
  map,
  eqb-true,
  eq-eqb,
  ne_eqb,
}
use Rattle.std.specs.Prelude.{filter, find, option_and_then, bytes_eq}
use Rattle.std.specs.List.{AllZip, AllByRecursion}
use Rattle.fnc_journal.specs.declared.entry.Exit.{Exit}
use Rattle.fnc_journal.specs.declared.entry.Slot.{Slot}
use Rattle.fnc_journal.specs.declared.event.Ended.{Ended}
use Rattle.fnc_journal.specs.declared.event.Start.{Start}
use Rattle.fnc_records.specs.declared.slot.SlotRecord.{SlotRecord}
use Rattle.fnc_records.specs.KeptOperation.{KeptOperation}
use Rattle.fnc_records.specs.OperationRecords as OperationRecords
use Rattle.fnc_records.specs.LevelRecords.{level_ended}
use Rattle.fnc_records.specs.OperationRecords.{only, started_at, operation_confirmed, operation_ended, is_waiting}
use Rattle.fnc_ops.specs.OpsRecords.{is_of, waiting, ended}
use Rattle.fnc_ops.specs.Stands.{AreAt}
use Rattle.fnc_ops.proofs.StandsExits.{moment-ranked, req-ranked}

false-true : (b : Bool) → b ≡ false → b ≡ true → ⊥
false-true b e f = cc

-- two records of one number that wait for the same
pub record WaitAlike (r s : KeptOperation) : Type 0 where
  pub req : r.req ≡ s.req
  pub waits : OperationRecords.waiting r ≡ OperationRecords.waiting s

-- what the operation of a number waits for, by such records
pub waiting-alike : (n : ℕ) (rs ss : List KeptOperation) → AllZip WaitAlike rs ss → waiting n rs ≡ waiting n ss
waiting-alike n [] [] z = refl
waiting-alike n [] (s ∷ ss) z = absurd z
waiting-alike n (r ∷ rs) [] z = absurd z
waiting-alike n (r ∷ rs) (s ∷ ss) z =
    ap (λ k. option_and_then OperationRecords.waiting (cond (k == n) (Some r) (find (is_of n) rs))) z.0.req
    ∙ go (s.req == n) (waiting-alike n rs ss z.1)
  where
    go : (b : Bool) → waiting n rs ≡ waiting n ss →
        option_and_then OperationRecords.waiting (cond b (Some r) (find (is_of n) rs)) ≡ option_and_then
        OperationRecords.waiting (cond b (Some s) (find (is_of n) ss))
    go true e = z.0.waits
    go false e = e

pub waiting-map : (f : KeptOperation → KeptOperation) → ((r : KeptOperation) → WaitAlike (f r) r) →
    (n : ℕ) (rs : List KeptOperation) → waiting n (map f rs) ≡ waiting n rs
waiting-map f k n rs = waiting-alike n (map f rs) rs (each rs)
  where
    each : (rs : List KeptOperation) → AllZip WaitAlike (map f rs) rs
    each [] = tt
    each (r ∷ rs) = (k r, each rs)

-- a change of one operation's record leaves what the others wait for
module _ (req : ℕ) (f : KeptOperation → KeptOperation) (k : (r : KeptOperation) → (f r).req ≡ r.req) where
  pub waiting-only : (n : ℕ) → (n == req) ≡ false → (rs : List KeptOperation) →
      waiting n (map (only req f) rs) ≡ waiting n rs
  waiting-only n other [] = refl
  waiting-only n other (r ∷ rs) = go (r.req == req) refl (waiting-only n other rs)
    where
      apart : (r.req == req) ≡ true → (r.req == n) ≡ false
      apart e = ne_eqb r.req n (λ g. false-true (n == req) other (eq-eqb n req (sym g ∙ eqb-true r.req req e)))

      both : (c : Bool) → waiting n (map (only req f) rs) ≡ waiting n rs →
          option_and_then OperationRecords.waiting (cond c (Some r) (find (is_of n) (map (only req f) rs))) ≡
          option_and_then OperationRecords.waiting (cond c (Some r) (find (is_of n) rs))
      both true ih = refl
      both false ih = ih

      go : (b : Bool) → (r.req == req) ≡ b → waiting n (map (only req f) rs) ≡ waiting n rs →
          option_and_then OperationRecords.waiting (cond ((cond b (f r) r).req == n) (Some (cond b (f r) r))
          (find (is_of n) (map (only req f) rs)))
          ≡ option_and_then OperationRecords.waiting (cond (r.req == n) (Some r) (find (is_of n) rs))
      go true e ih =
          let changed : ((f r).req == n) ≡ false = ap (λ q. q == n) (k r) ∙ apart e in
          let before : (r.req == n) ≡ false = apart e in
          rw (changed, before) ih
      go false e ih = both (r.req == n) ih

  pub req-only : (r : KeptOperation) → (only req f r).req ≡ r.req
  req-only r = go (r.req == req)
    where
      go : (b : Bool) → (cond b (f r) r).req ≡ r.req
      go true = k r
      go false = refl

pub moment-only : (req : ℕ) (f : KeptOperation → KeptOperation) → ((r : KeptOperation) → (f r).moment ≡ r.moment) →
    (r : KeptOperation) → (only req f r).moment ≡ r.moment
moment-only req f k r = go (r.req == req)
  where
    go : (b : Bool) → (cond b (f r) r).moment ≡ r.moment
    go true = k r
    go false = refl

pub numbers-map : (f : KeptOperation → KeptOperation) → ((r : KeptOperation) → (f r).req ≡ r.req) →
    (rs : List KeptOperation) → map (λ r. r.req) (map f rs) ≡ map (λ r. r.req) rs
numbers-map f k [] = refl
numbers-map f k (r ∷ rs) = ap₂ ◌∷◌ (k r) (numbers-map f k rs)

pub at-map : (m : ℕ) (f : KeptOperation → KeptOperation) → ((r : KeptOperation) → (f r).moment ≡ r.moment) →
    (rs : List KeptOperation) → AreAt m rs → AreAt m (map f rs)
at-map m f k [] a = tt
at-map m f k (r ∷ rs) a = (k r ∙ a.0, at-map m f k rs a.1)

-- a record after a start
module _ (m : ℕ) (x : Option SlotRecord) (r : KeptOperation) where
  pub req-started : (started_at m x r).req ≡ r.req
  req-started = elim x as (λ y. (started_at m y r).req ≡ r.req) [ None ↦ refl | Some s ↦ refl ]

  pub moment-started : (started_at m x r).moment ≡ r.moment
  moment-started = elim x as (λ y. (started_at m y r).moment ≡ r.moment) [ None ↦ refl | Some s ↦ refl ]

-- after an operator's word
confirmed-alike : (target : List ℕ) (r : KeptOperation) → WaitAlike (operation_confirmed target r) r
confirmed-alike target r = go (bytes_eq target r.target)
  where
    go : (b : Bool) → WaitAlike (cond b (record r { confirmed = true }) r) r
    go true = record { req = refl; waits = refl }
    go false = record { req = refl; waits = refl }

pub waiting-confirmed : (target : List ℕ) (n : ℕ) (rs : List KeptOperation) →
    waiting n (map (operation_confirmed target) rs) ≡ waiting n rs
waiting-confirmed target = waiting-map (operation_confirmed target) (confirmed-alike target)

pub moment-confirmed : (target : List ℕ) (r : KeptOperation) → (operation_confirmed target r).moment ≡ r.moment
moment-confirmed target r = go (bytes_eq target r.target)
  where
    go : (b : Bool) → (cond b (record r { confirmed = true }) r).moment ≡ r.moment
    go true = refl
    go false = refl

-- where each record waits, none goes
pub waiting-kept : (rs : List KeptOperation) → (n req : ℕ) → (n == req) ≡ false →
    AllByRecursion (λ r. (r.req == req) ≡ false → is_waiting r ≡ true) rs →
    waiting n (filter is_waiting rs) ≡ waiting n rs
waiting-kept [] n req other a = refl
waiting-kept (r ∷ rs) n req other a = go (is_waiting r) (r.req == req) refl refl (waiting-kept rs n req other a.1)
  where
    gone : (r.req == req) ≡ true → (r.req == n) ≡ false
    gone e = ne_eqb r.req n (λ g. false-true (n == req) other (eq-eqb n req (sym g ∙ eqb-true r.req req e)))

    stays : (c : Bool) → waiting n (filter is_waiting rs) ≡ waiting n rs →
        option_and_then OperationRecords.waiting (cond c (Some r) (find (is_of n) (filter is_waiting rs))) ≡
        option_and_then OperationRecords.waiting (cond c (Some r) (find (is_of n) rs))
    stays true ih = refl
    stays false ih = ih

    go : (b c : Bool) → is_waiting r ≡ b → (r.req == req) ≡ c → waiting n (filter is_waiting rs) ≡ waiting n rs →
        waiting n (cond b (r ∷ filter is_waiting rs) (filter is_waiting rs)) ≡ waiting n (r ∷ rs)
    go true c w e ih = stays (r.req == n) ih
    go false true w e ih = let other : (r.req == n) ≡ false = gone e in rw other ih
    go false false w e ih = absurd (false-true (is_waiting r) w (a.0 e))

-- after an exit, of a run that was started so
ended-req : (slot : Slot) (exit : Exit) (listed : Bool) (m : ℕ) (r : KeptOperation) →
    (operation_ended slot exit listed m r).req ≡ r.req
ended-req slot exit listed m r =
    req-ranked m (record r { levels = map (level_ended slot exit listed r.over m) r.levels })

ended-moment : (slot : Slot) (exit : Exit) (listed : Bool) (m : ℕ) (r : KeptOperation) →
    (operation_ended slot exit listed m r).moment ≡ r.moment
ended-moment slot exit listed m r =
    moment-ranked m (record r { levels = map (level_ended slot exit listed r.over m) r.levels })

pub at-ended : (s : Start) (over : Ended) (m at : ℕ) (rs : List KeptOperation) → AreAt at rs →
    AreAt at (ended s over m rs)
at-ended s over m at rs a =
    let seen = operation_ended s.slot over.exit over.listed m in
    at-map at (only s.req.0 seen) (moment-only s.req.0 seen (ended-moment s.slot over.exit over.listed m)) rs a

pub waiting-ended : (s : Start) (over : Ended) (m n : ℕ) → (n == s.req.0) ≡ false → (rs : List KeptOperation) →
    waiting n (ended s over m rs) ≡ waiting n rs
waiting-ended s over m n other rs =
    waiting-only s.req.0 (operation_ended s.slot over.exit over.listed m) (ended-req s.slot over.exit over.listed m) n
    other rs
