-- What is said of a journal is written and sent on, or a write fails.
use Rattle.std.proofs.Common.{ℕ, List, [], ◌≡◌, ◌≤◌, refl, ap, ap₂, sym, ◌∙◌, subst, inl, inr, Some, None}
use Rattle.std.proofs.Common.{Option}
use Rattle.fnc_journal.specs.declared.outcome.Outcome.{Outcome}
use Rattle.fnc_journal.specs.History.{History}
use Rattle.fnc_journal.specs.Lawful.{Fault, fault}
use Rattle.fnc_outside.specs.Faults.{Rose}
use Rattle.fnc_outside.specs.Told.{Gains, Keeps}
use Rattle.fnc_outside.specs.Writes.{AppendsPart, HoldsPart}
use Rattle.fnc_outside.proofs.Telling.{gains-holds, gains-keeps, holds-appended, then-rose}
use Rattle.fnc_told.specs.SourceAndSink.{Change, SinkTold, change}
use Rattle.fnc_audit.specs.declared.question.Question.{Question}
use Rattle.fnc_audit.specs.Audits.{Tells}
use Rattle.fnc_audit.specs.Reading.{Finishes, IsWritten}
use Rattle.fnc_audit.specs.Said.{Said, said, verdict_line, verdict_outcome}
use Rattle.fnc_audit.specs.TextRead.{TextRead}

-- an outcome that is said
abbrev IsSaid : Outcome → Type 0
IsSaid Outcome.Finished = Unit {0}
IsSaid (Outcome.Unlawful index rule) = Unit {0}
IsSaid _ = ⊥

verdict-said : (f : Option Fault) → IsSaid (verdict_outcome f)
verdict-said None = tt
verdict-said (Some f) = tt

outcome-said : (q : Question) (h : History) → IsSaid (said q h).outcome
outcome-said Question.Verdict h = verdict-said (fault h)
outcome-said (Question.Answers node) h = tt

tells-said : (says : History → Said) (o : Outcome) (sink : Change SinkTold) (r : TextRead) → IsSaid o →
    Tells says o sink r → Finishes says o sink r
tells-said says Outcome.Finished sink r i t = t
tells-said says (Outcome.Unlawful index rule) sink r i t = t
tells-said says Outcome.Usage sink r i t = absurd i
tells-said says Outcome.ReadFault sink r i t = absurd i
tells-said says Outcome.WriteFault sink r i t = absurd i
tells-said says Outcome.NoMemory sink r i t = absurd i
tells-said says Outcome.Budget sink r i t = absurd i
tells-said says (Outcome.BadEntry line) sink r i t = absurd i
tells-said says (Outcome.JournalFull full) sink r i t = absurd i

-- what was written is what is said to the question
pub finishes-said : (q : Question) (o : Outcome) (sink : Change SinkTold) (h : History) (r : TextRead) →
    r ≡ TextRead.Entries h → IsWritten o (said q h).outcome sink (said q h).text → Finishes (said q) o sink r
finishes-said q o sink h r e w = elim w [
  | inl w ↦ subst (λ (x : Outcome). Finishes (said q) x sink r) (sym w.0)
      (tells-said (said q) (said q h).outcome sink r (outcome-said q h)
      (record { history = h; journal = e; outcome_said = refl; written = w.1 }))
  | inr w ↦ subst (λ (x : Outcome). Finishes (said q) x sink r) (sym w.0)
      (record { history = h; journal = e; faulted = w.1; written = w.2 })
]

-- all was printed and sent on
pub written-sent : (o : Outcome) (start before after : SinkTold) (text : List ℕ) → Gains start.held before.held text →
    Keeps before.held after.held → after.unsent ≡ 0 → IsWritten o o (change start after) text
written-sent o start before after text printed same none =
    inl (refl, (gains-keeps start.held before.held after.held text printed same, none))

-- all was printed, and the flush failed
pub written-lost : (o : Outcome) (start before after : SinkTold) (text : List ℕ) → Gains start.held before.held text →
    start.faults ≤ before.faults → HoldsPart before.held after.held [] → Rose before.faults after.faults →
    IsWritten Outcome.WriteFault o (change start after) text
written-lost o start before after text printed later part rose = inr (
  refl,
  then-rose start.faults before.faults after.faults later rose,
  gains-holds start.held before.held after.held text printed part,
)

-- a part was printed
pub written-part : (o : Outcome) (start before : SinkTold) (text : List ℕ) → AppendsPart start.held before.held text →
    Rose start.faults before.faults → IsWritten Outcome.WriteFault o (change start before) text
written-part o start before text part rose = inr (refl, rose, holds-appended start.held before.held text part)

-- the line of a verdict is that of the first fault of the journal
pub written-verdict : (f g : Option Fault) (entries n : ℕ) (result wanted : Outcome) (sink : Change SinkTold) → f ≡ g →
    entries ≡ n → wanted ≡ verdict_outcome f → IsWritten result wanted sink (verdict_line entries f) →
    IsWritten result (verdict_outcome g) sink (verdict_line n g)
written-verdict f g entries n result wanted sink same count by w =
    subst (λ (o : Outcome). IsWritten result o sink (verdict_line n g)) (by ∙ ap verdict_outcome same)
    (subst (IsWritten result wanted sink) (ap₂ verdict_line count same) w)
