-- What it says of the tries that wait that one operation's item changed.
use Rattle.std.proofs.Common.{
  ℕ,
  List,
  [],
  ◌∷◌,
  Bool,
  true,
  false,
  ◌≡◌,
  ◌+◌,
  ◌-◌,
  ◌<◌,
  ◌==◌,
  ◌||◌,
  refl,
  ap,
  sym,
  ◌∙◌,
  arith,
  Option,
  Some,
  None,
  is_some,
  cond,
  eq-eqb,
}
use Rattle.std.specs.Prelude.{option_map, option_and_then, find}
use Rattle.std.specs.List.{list_any}
use Rattle.fnc_journal.specs.History.{History}
use Rattle.fnc_records.specs.declared.operation.Standing.{Standing}
use Rattle.fnc_ops.specs.Kept.{Kept}
use Rattle.fnc_records.specs.KeptOperation.{KeptOperation}
use Rattle.fnc_records.specs.OperationRecords as OperationRecords
use Rattle.fnc_ops.specs.OpsRecords.{is_of, waiting}
use Rattle.fnc_queue.specs.declared.waiting.Waiting.{Waiting}
use Rattle.fnc_queue.specs.Items.{is_waiting, item_of, Changes}
use Rattle.fnc_queue.specs.Queued.{Queued, withdrawn, added}
use Rattle.fnc_queue.proofs.ItemLemmas.{waits-where-found}
use Rattle.fnc_core.specs.Wanted.{wanted, item_for, one_if_held}

-- the item that an operation wants is its own
pub wanted-own : (h : History) (req : ℕ) (v : Kept) (item : Waiting) → wanted h req v ≡ Some item → item.req.0 ≡ req
wanted-own h req v item e = go (waiting req v.operations) e
  where
    go : (s : Option Standing) → option_map (item_for h req) s ≡ Some item → item.req.0 ≡ req
    go None f = cc
    go (Some s) f = let same : item_for h req s ≡ item = cc in sym (ap (λ (w : Waiting). w.req.0) same)

-- an operation without a record wants none
find-none : (req : ℕ) (os : List KeptOperation) → list_any (is_of req) os ≡ false → find (is_of req) os ≡ None
find-none req [] e = refl
find-none req (o ∷ os) e = go (o.req == req) e (λ k. find-none req os k)
  where
    go : (b : Bool) → (b || list_any (is_of req) os) ≡ false →
        (list_any (is_of req) os ≡ false → find (is_of req) os ≡ None) → cond b (Some o) (find (is_of req) os) ≡ None
    go true k ih = cc
    go false k ih = ih k

pub wanted-none : (h : History) (req : ℕ) (v : Kept) → list_any (is_of req) v.operations ≡ false → wanted h req v ≡ None
wanted-none h req v e = ap (λ (x : Option KeptOperation). option_map (item_for h req)
    (option_and_then OperationRecords.waiting x)) (find-none req v.operations e)

-- whether the operation has an item, and whether another has one
pub changed-own : (req : ℕ) (new : Option Waiting) (before after : List Waiting) → Changes req new before after →
    is_waiting req after ≡ is_some new
changed-own req new before after c = sym (waits-where-found req after) ∙ ap is_some (c req)
    ∙ ap (λ b. is_some (cond b new (item_of req before))) (eq-eqb req req refl)

pub changed-other : (req : ℕ) (new : Option Waiting) (before after : List Waiting) → Changes req new before after →
    (n : ℕ) → (req == n) ≡ false → is_waiting n after ≡ is_waiting n before
changed-other req new before after c n e =
    sym (waits-where-found n after) ∙ ap is_some (c n) ∙ ap (λ b. is_some (cond b new (item_of n before))) e
    ∙ waits-where-found n before

-- one change after another of one operation's item
pub changed-twice : (req : ℕ) (one two : Option Waiting) (before between after : List Waiting) →
    Changes req one before between → Changes req two between after → Changes req two before after
changed-twice req one two before between after c d n = d n ∙ go (req == n) (c n)
  where
    go : (b : Bool) → item_of n between ≡ cond b one (item_of n before) →
        cond b two (item_of n between) ≡ cond b two (item_of n before)
    go true e = refl
    go false e = e

-- an operation's item gives its place back, and takes one
spare-withdrawn : (req : ℕ) (q : Queued) → (withdrawn req q).spare ≡ q.spare + one_if_held req q.waiting
spare-withdrawn req q = go (is_waiting req q.waiting) refl
  where
    go : (b : Bool) → is_waiting req q.waiting ≡ b → (withdrawn req q).spare ≡ q.spare + one_if_held req q.waiting
    go true e = rw e refl
    go false e = rw e (omega arith)

one-own : (req : ℕ) (new : Option Waiting) (before after : List Waiting) → Changes req new before after →
    one_if_held req after ≡ cond (is_some new) 1 0
one-own req new before after c = ap (λ b. cond b 1 0) (changed-own req new before after c)

pub places-withdrawn : (req : ℕ) (old new : Queued) → new ≡ withdrawn req old →
    Changes req None old.waiting new.waiting →
    new.spare + one_if_held req new.waiting ≡ old.spare + one_if_held req old.waiting
places-withdrawn req old new e c =
    let spare : new.spare ≡ old.spare + one_if_held req old.waiting = ap (λ (q : Queued). q.spare) e
    ∙ spare-withdrawn req old in
    let none : one_if_held req new.waiting ≡ 0 = one-own req None old.waiting new.waiting c in
    omega (arith, spare, none)

-- there is a place where it had an item, or one was left
place-withdrawn : (req : ℕ) (old new : Queued) → new ≡ withdrawn req old →
    (is_waiting req old.waiting ≡ false → 0 < old.spare) → 0 < new.spare
place-withdrawn req old new e k =
    let spare : new.spare ≡ old.spare + one_if_held req old.waiting = ap (λ (q : Queued). q.spare) e
    ∙ spare-withdrawn req old in
    go (is_waiting req old.waiting) refl spare
  where
    go : (b : Bool) → is_waiting req old.waiting ≡ b → new.spare ≡ old.spare + cond (is_waiting req old.waiting) 1 0 →
        0 < new.spare
    go true f s = let one : new.spare ≡ old.spare + 1 = s ∙ ap (λ b. old.spare + cond b 1 0) f in omega (arith, one)
    go false f s =
        let none : new.spare ≡ old.spare + 0 = s ∙ ap (λ b. old.spare + cond b 1 0) f in
        let left : 0 < old.spare = k f in
        omega (arith, none, left)

pub places-added : (req : ℕ) (item : Waiting) (old between new : Queued) → item.req.0 ≡ req →
    between ≡ withdrawn req old → (is_waiting req old.waiting ≡ false → 0 < old.spare) →
    new ≡ added item between → Changes item.req.0 (Some item) between.waiting new.waiting →
    new.spare + one_if_held req new.waiting ≡ old.spare + one_if_held req old.waiting
places-added req item old between new own e k f c =
    let some : one_if_held req new.waiting ≡ 1 = ap (λ n. one_if_held n new.waiting) (sym own)
    ∙ one-own item.req.0 (Some item) between.waiting new.waiting c in
    let given : between.spare ≡ old.spare + one_if_held req old.waiting = ap (λ (q : Queued). q.spare) e
    ∙ spare-withdrawn req old in
    let left : 0 < between.spare = place-withdrawn req old between e k in
    let taken : new.spare ≡ between.spare - 1 = ap (λ (q : Queued). q.spare) f in
    omega (arith, some, given, left, taken)
