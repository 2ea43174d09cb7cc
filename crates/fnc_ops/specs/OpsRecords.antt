-- What the records of all operations say.
use Rattle.std.specs.Prelude.{
  ℕ,
  List,
  [],
  ◌∷◌,
  Bool,
  ◌==◌,
  find,
  Option,
  Some,
  None,
  option_and_then,
  map,
  filter,
  if◌then◌else◌,
  nat_lt,
  option_map,
  ◌+◌,
  ◌≡◌,
  false,
}
use Rattle.std.specs.Option.{option_or}
use Rattle.fnc_journal.specs.declared.entry.Answer.{Answer}
use Rattle.fnc_records.specs.declared.operation.Standing.{Standing}
use Rattle.fnc_ops.specs.declared.ops.Due.{Due}
use Rattle.fnc_records.specs.KeptOperation.{KeptOperation}
use Rattle.fnc_ops.specs.Kept.{Kept}
use Rattle.fnc_records.specs.SlotRecords.{capped}
use Rattle.fnc_records.specs.OperationRecords as OperationRecords
use Rattle.fnc_journal.specs.declared.event.Ended.{Ended}
use Rattle.fnc_journal.specs.declared.event.Start.{Start}
use Rattle.fnc_journal.specs.declared.entry.Req.{Req}
use Rattle.fnc_ops.specs.declared.records.Expiry.{Expiry}
use Rattle.fnc_journal.specs.declared.entry.Kind.{Kind}

-- whether it is the operation of a number
abbrev pub is_of : ℕ → KeptOperation → Bool
is_of req o = o.req == req

-- where the operation of a number stands, at the moment at which its record speaks
abbrev pub standing : ℕ → List KeptOperation → Option Standing
standing req os = option_and_then (λ o. OperationRecords.standing o.moment o) (find (is_of req) os)

-- the try that the operation of a number waits for, at the moment at which its record speaks
abbrev pub waiting : ℕ → List KeptOperation → Option Standing
waiting req os = option_and_then OperationRecords.waiting (find (is_of req) os)

-- whatever an operation waits for, but for that of a number, it waits for afterwards
abbrev pub OthersWait : ℕ → Kept → Kept → Type 0
OthersWait req v w = (n : ℕ) → (n == req) ≡ false → waiting n w.operations ≡ waiting n v.operations

-- whatever an operation waits for, it waits for afterwards
abbrev pub AllWait : Kept → Kept → Type 0
AllWait v w = (n : ℕ) → waiting n w.operations ≡ waiting n v.operations

-- whatever an operation waits for, but for that which was taken, if one was, it waits for afterwards
abbrev pub AllWaitBut : Option Req → Kept → Kept → Type 0
AllWaitBut None v w = AllWait v w
AllWaitBut (Some req) v w = OthersWait req.0 v w

-- the number of an operation with the answer that is due to it
pub record DueTo : Type 0 where
  pub req : ℕ
  pub answer : Answer

-- the number of an operation with an answer that may be missing
abbrev pub due_to : ℕ → Option Answer → Option DueTo
due_to req None = None
due_to req (Some answer) = Some (record { req = req; answer = answer })

-- the first of them to which one is due
abbrev pub first_due : ℕ → List KeptOperation → Option DueTo
first_due m [] = None
first_due m (o ∷ os) = option_or (due_to o.req (OperationRecords.due m o)) (first_due m os)

-- what an answer that is due says
abbrev pub shown : Option Due → Option DueTo
shown None = None
shown (Some d) = Some (record { req = d.req.0; answer = d.answer })

-- the least request that waits for the operation of a number
abbrev pub first_member : ℕ → List KeptOperation → Option Req
first_member req os = option_and_then OperationRecords.first_member (find (is_of req) os)

-- after a reply to it: an operation for which none waits is closed
abbrev pub replied : ℕ → List KeptOperation → List KeptOperation
replied req os = filter OperationRecords.is_waiting (map (OperationRecords.only req OperationRecords.replied) os)

-- after a start of the slot at which the operation of a number stands
abbrev pub started : ℕ → ℕ → Kept → Kept
started req m v = record {
  operations = map (OperationRecords.only req (OperationRecords.start_standing m)) v.operations;
  alive = capped 32 (v.alive + 1);
}

-- after the exit of a run that was started so
abbrev pub ended : Start → Ended → ℕ → List KeptOperation → List KeptOperation
ended s over m os =
    map (OperationRecords.only s.req.0 (OperationRecords.operation_ended s.slot over.exit over.listed m)) os

-- an operation whose standing slot has come to its action's end
abbrev pub expiry_by : KeptOperation → Option ℕ → Option Expiry
expiry_by o None = None
expiry_by o (Some at) = Some (record { req = record { 0 = o.req }; end = at })

abbrev pub expiry_of : ℕ → KeptOperation → Option Expiry
expiry_of m o = expiry_by o (OperationRecords.expired_at m o)

-- the sooner of two, of equals the first
abbrev pub sooner : Option Expiry → Option Expiry → Option Expiry
sooner None b = b
sooner (Some a) None = Some a
sooner (Some a) (Some b) = Some (if nat_lt b.end a.end then b else a)

-- the first expiry of all operations
abbrev pub first_expiry : ℕ → List KeptOperation → Option Expiry
first_expiry m [] = None
first_expiry m (o ∷ os) = sooner (expiry_of m o) (first_expiry m os)

-- the operation of the first expiry
abbrev pub first_expired : ℕ → List KeptOperation → Option Req
first_expired m os = option_map (λ (e : Expiry). e.req) (first_expiry m os)

-- a later moment, where an operation comes to it: for that one and for those whose standing slot does not come to its
-- action's end by then; else for all
abbrev pub moved : Option Req → ℕ → List KeptOperation → List KeptOperation
moved None m os = map (OperationRecords.at_moment m) os
moved (Some req) m os = map (OperationRecords.at_moment_unless_ending req.0 m) os

-- the first that a request for a target and an action joins
abbrev pub joinable : Kind → List ℕ → List KeptOperation → Option Req
joinable kind target os =
    option_map (λ (o : KeptOperation). record { 0 = o.req }) (find (OperationRecords.is_joinable kind target) os)

-- what all of them owe
abbrev pub owed_by_all : List KeptOperation → ℕ
owed_by_all [] = 0
owed_by_all (o ∷ os) = OperationRecords.owed_by o + owed_by_all os

-- a number with what they owe, as far as it fits
abbrev pub owed_with : ℕ → List KeptOperation → ℕ
owed_with n [] = n
owed_with n (o ∷ os) = owed_with (capped 64 (n + capped 64 (OperationRecords.owed_by o))) os

-- what all operations owe, with an exit for each run that is alive
abbrev pub owed : Kept → ℕ
owed v = v.alive + owed_by_all v.operations

-- after a request has joined the operation of a number
abbrev pub joined : ℕ → Req → List KeptOperation → List KeptOperation
joined operation req [] = []
joined operation req (o ∷ os) =
    if o.req == operation then OperationRecords.with_member req o ∷ os else o ∷ joined operation req os
