-- What is claimed of a journal follows from tests that compute.
use Rattle.std.proofs.Common.{ℕ, List, [], ◌∷◌, ◌++◌, Bool, true, false, ◌≡◌, refl, Option, Some, None, ◌&&◌}
use Rattle.fnc_journal.specs.declared.entry.Entry.{Entry}
use Rattle.fnc_journal.specs.declared.outcome.Rule.{Rule}
use Rattle.fnc_journal.specs.History.{History}
use Rattle.fnc_journal.specs.Lawful.{Calm, Fault, calm_entry, fault}
use Rattle.fnc_journal.specs.Driven.{Driven, DrivenInputs, rests, rests_before}
use Rattle.fnc_journal.specs.Line.{answers_text, end_line}
use Rattle.fnc_journal.proofs.Faults.{lawful-no_fault, no_fault-lawful}
use Rattle.fnc_journal.proofs.Lawfulness.{and-left, and-right}
use Rattle.fnc_worked.specs.Entries.{journal}
use Rattle.fnc_worked.specs.Sessions.{Session, lines, IsReplay, Breaks, IsIdle, IsRestless}

-- whether nothing was due at any start
abbrev pub is_calm : History → Bool
is_calm [] = true
is_calm (e ∷ before) = calm_entry e before && is_calm before

-- whether each input found the one before it served in full
abbrev pub are_inputs_driven : History → Bool
are_inputs_driven [] = true
are_inputs_driven (e ∷ before) = rests_before e before && are_inputs_driven before

-- whether every input was served in full
abbrev pub is_driven : History → Bool
is_driven h = rests None h && are_inputs_driven h

both : (a b : Bool) → a ≡ true → b ≡ true → (a && b) ≡ true
both a b p q = rw (p, q) refl

calm : (h : History) → is_calm h ≡ true → Calm h
calm [] q = tt
calm (e ∷ before) q = (and-left _ _ q, calm before (and-right _ _ q))

is_calm-of : (h : History) → Calm h → is_calm h ≡ true
is_calm-of [] c = refl
is_calm-of (e ∷ before) c = both _ _ c.0 (is_calm-of before c.1)

inputs_driven : (h : History) → are_inputs_driven h ≡ true → DrivenInputs h
inputs_driven [] q = tt
inputs_driven (e ∷ before) q = (and-left _ _ q, inputs_driven before (and-right _ _ q))

are_inputs_driven-of : (h : History) → DrivenInputs h → are_inputs_driven h ≡ true
are_inputs_driven-of [] d = refl
are_inputs_driven-of (e ∷ before) d = both _ _ d.0 (are_inputs_driven-of before d.1)

driven : (h : History) → is_driven h ≡ true → Driven h
driven h q = (and-left _ _ q, inputs_driven h (and-right _ _ q))

is_driven-of : (h : History) → Driven h → is_driven h ≡ true
is_driven-of h d = both _ _ d.0 (are_inputs_driven-of h d.1)

never : (b : Bool) → b ≡ true → b ≡ false → ⊥
never true p q = cc
never false p q = cc

no_some : (f : Option Fault) (g : Fault) → f ≡ None → f ≡ Some g → ⊥
no_some f g p q = cc

pub replay : (s : Session) → fault (journal s.entries) ≡ None → is_calm (journal s.entries) ≡ true →
    is_driven (journal s.entries) ≡ true →
    answers_text (journal s.entries) ++ end_line (journal s.entries) ≡ lines s.output → IsReplay s
replay s f c d o = record {
  no_fault = f;
  lawful = lawful-no_fault (journal s.entries) f;
  calm = calm (journal s.entries) c;
  driven = driven (journal s.entries) d;
  output = o;
}

pub breaks : (index : ℕ) (rule : Rule) (entries : List Entry) →
    fault (journal entries) ≡ Some (record { index = index; rule = rule }) → Breaks index rule entries
breaks index rule entries f = record { first = f; unlawful = λ l. no_some _ _ (no_fault-lawful (journal entries) l) f }

pub idle : (entries : List Entry) → fault (journal entries) ≡ None → is_calm (journal entries) ≡ true →
    is_driven (journal entries) ≡ false → IsIdle entries
idle entries f c d = record {
  lawful = lawful-no_fault (journal entries) f;
  calm = calm (journal entries) c;
  not_driven = λ g. never _ (is_driven-of (journal entries) g) d;
}

pub restless : (entries : List Entry) → fault (journal entries) ≡ None → is_driven (journal entries) ≡ true →
    is_calm (journal entries) ≡ false → IsRestless entries
restless entries f d c = record {
  lawful = lawful-no_fault (journal entries) f;
  driven = driven (journal entries) d;
  not_calm = λ g. never _ (is_calm-of (journal entries) g) c;
}
