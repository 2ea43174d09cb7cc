-- A journal is lawful exactly where it has no fault.
use Rattle.std.proofs.Common.{[], ◌∷◌, Bool, true, false, ◌≡◌, refl, Option, Some, None, not, cond, length}
use Rattle.fnc_journal.specs.declared.entry.Entry.{Entry}
use Rattle.fnc_journal.specs.declared.outcome.Rule.{Rule}
use Rattle.fnc_journal.specs.History.{History}
use Rattle.fnc_journal.specs.Lawful.{
  Lawful,
  LawfulEntry,
  Fault,
  fault,
  fault_at,
  broken,
  order,
  exit,
  start,
  once,
  reply,
  prompt,
}

-- the first of the six rules that does not hold
abbrev ladder : Bool → Bool → Bool → Bool → Bool → Bool → Option Rule
ladder a b c d e f =
    cond (not a) (Some Rule.Order)
    (cond (not b) (Some Rule.Exit)
    (cond (not c) (Some Rule.Start)
    (cond (not d) (Some Rule.Once)
    (cond (not e) (Some Rule.Reply)
    (cond (not f) (Some Rule.Prompt) None)))))

-- all six hold
record AllHold (a b c d e f : Bool) : Type 0 where
  ordered : a ≡ true
  exits : b ≡ true
  starts : c ≡ true
  once_only : d ≡ true
  replies : e ≡ true
  prompted : f ≡ true

all-none : (a b c d e f : Bool) → ladder a b c d e f ≡ None → AllHold a b c d e f
all-none true true true true true true q =
    record { ordered = refl; exits = refl; starts = refl; once_only = refl; replies = refl; prompted = refl }
all-none false b c d e f q = cc
all-none true false c d e f q = cc
all-none true true false d e f q = cc
all-none true true true false e f q = cc
all-none true true true true false f q = cc
all-none true true true true true false q = cc

-- an entry that breaks no rule
pub entry-unbroken : (e : Entry) (h : History) → broken e h ≡ None → LawfulEntry e h
entry-unbroken e h q =
    let all = all-none (order e h) (exit e h) (start e h) (once e h) (reply e h) (prompt e h) q in
    record { ordered = all.ordered; exits = all.exits; starts = all.starts; once_only = all.once_only; replies = all.replies; prompted = all.prompted }

pub unbroken-entry : (e : Entry) (h : History) → LawfulEntry e h → broken e h ≡ None
unbroken-entry e h l = rw (l.ordered, l.exits, l.starts, l.once_only, l.replies, l.prompted) refl

-- the fault of an entry and of what lies before it
abbrev pub with_before : Option Fault → Option Fault → Option Fault
with_before here earlier = elim earlier [ Some f ↦ Some f | None ↦ here ]

pub lawful-no_fault : (h : History) → fault h ≡ None → Lawful h
lawful-no_fault [] q = tt
lawful-no_fault (e ∷ before) q = go (fault before) refl (broken e before) refl q (λ p. lawful-no_fault before p)
  where
    go : (f : Option Fault) → fault before ≡ f → (b : Option Rule) → broken e before ≡ b →
        with_before (fault_at (length before) b) f ≡ None → (fault before ≡ None → Lawful before) → LawfulEntry e before × Lawful before
    go (Some f) p b r s ih = cc
    go None p (Some rule) r s ih = cc
    go None p None r s ih = (entry-unbroken e before r, ih p)

pub no_fault-lawful : (h : History) → Lawful h → fault h ≡ None
no_fault-lawful [] l = refl
no_fault-lawful (e ∷ before) l = rw (no_fault-lawful before l.1, unbroken-entry e before l.0) refl
