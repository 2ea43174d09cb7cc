-- What the sink holds of a text, after a print and after the last flush.
use Rattle.std.proofs.Common.{List, [], ◌≡◌, ◌≤◌, ℕ, Result, Ok, Err, inl, inr}
use Rattle.std.specs.Prelude.{◌⊎◌, OnErr, OnOk}
use Rattle.fnc_journal.specs.declared.outcome.Outcome.{Outcome}
use Rattle.fnc_journal.specs.History.{History}
use Rattle.fnc_journal_text.specs.declared.form.Form.{Form}
use Rattle.fnc_journal_text.specs.Paper.{text}
use Rattle.fnc_outside.specs.Faults.{Rose}
use Rattle.fnc_outside.specs.Told.{Gains, Keeps}
use Rattle.fnc_outside.specs.Writes.{AppendsPart, HoldsPart}
use Rattle.fnc_outside.proofs.Telling.{gains-holds, gains-keeps, holds-appended, holds-holds, holds-keeps, holds-more}
use Rattle.fnc_outside.proofs.Telling.{rose-then, then-rose}
use Rattle.fnc_told.specs.Held.{Holds, HoldsFront, SinkFaulted}
use Rattle.fnc_replay.specs.Session.{Printed, Wrote, after_failed_flush, last_line}
use Rattle.fnc_replay.specs.Session.{whole_text}
use Rattle.fnc_told.specs.SourceAndSink.{SinkTold, change}

-- all of a text was printed since the start, or a part from the front of it
pub printed-full : {T E : Type 0} (r : Result T E) (start before after : SinkTold) (text : List ℕ) →
    start.faults ≤ before.faults → OnOk r (Gains start.held after.held text) →
    OnErr r (AppendsPart start.held after.held text) → OnErr r (Rose before.faults after.faults) →
    Holds (change start after) text ⊎ (SinkFaulted (change start after) × HoldsFront (change start after) text)
printed-full (Ok x) start before after text later ok err cause = inl ok
printed-full (Err x) start before after text later ok err cause =
    inr (then-rose start.faults before.faults after.faults later cause, holds-appended start.held after.held text err)

-- the last flush worked
pub wrote-sent : (o : Outcome) (form : Form) (start before after : SinkTold) (h : History) → before.faults ≤ after.faults →
    Keeps before.held after.held → after.unsent ≡ 0 → Printed o form (change start before) h → Wrote o form (change start after) h
wrote-sent Outcome.Finished form start before after h later same none p =
    (gains-keeps start.held before.held after.held (whole_text form h) p same, none)
wrote-sent Outcome.Budget form start before after h later same none p =
    (gains-keeps start.held before.held after.held (text h form) p same, none)
wrote-sent Outcome.WriteFault form start before after h later same none p =
    holds-keeps start.held before.held after.held (whole_text form h) p same
wrote-sent Outcome.ReadFault form start before after h later same none p =
    inl (gains-keeps start.held before.held after.held (text h form) p same, none)
wrote-sent (Outcome.JournalFull full) form start before after h later same none p = elim p [
  | inl p ↦ inl (gains-keeps start.held before.held after.held (text h form) p same, none)
  | inr p ↦ inr (
    rose-then start.faults before.faults after.faults p.0 later,
    holds-keeps start.held before.held after.held (text h form) p.1 same,
  )
]
wrote-sent Outcome.Usage form start before after h later same none p = absurd p
wrote-sent Outcome.NoMemory form start before after h later same none p = absurd p
wrote-sent (Outcome.Unlawful index rule) form start before after h later same none p = absurd p
wrote-sent (Outcome.BadEntry line) form start before after h later same none p = absurd p

-- the last flush failed
pub wrote-failed : (o : Outcome) (form : Form) (start before after : SinkTold) (h : History) → start.faults ≤ before.faults →
    HoldsPart before.held after.held [] → Rose before.faults after.faults → Printed o form (change start before) h →
    Wrote (after_failed_flush o) form (change start after) h
wrote-failed Outcome.Finished form start before after h later part rose p =
    gains-holds start.held before.held after.held (whole_text form h) p part
wrote-failed Outcome.Budget form start before after h later part rose p =
    holds-more start.held after.held (text h form) (last_line form h)
    (gains-holds start.held before.held after.held (text h form) p part)
wrote-failed Outcome.WriteFault form start before after h later part rose p =
    holds-holds start.held before.held after.held (whole_text form h) p part
wrote-failed Outcome.ReadFault form start before after h later part rose p = inr (
  then-rose start.faults before.faults after.faults later rose,
  gains-holds start.held before.held after.held (text h form) p part,
)
wrote-failed (Outcome.JournalFull full) form start before after h later part rose p = elim p [
  | inl p ↦ inr (
    then-rose start.faults before.faults after.faults later rose,
    gains-holds start.held before.held after.held (text h form) p part,
  )
  | inr p ↦ inr (
    then-rose start.faults before.faults after.faults later rose,
    holds-holds start.held before.held after.held (text h form) p.1 part,
  )
]
wrote-failed Outcome.Usage form start before after h later part rose p = absurd p
wrote-failed Outcome.NoMemory form start before after h later part rose p = absurd p
wrote-failed (Outcome.Unlawful index rule) form start before after h later part rose p = absurd p
wrote-failed (Outcome.BadEntry line) form start before after h later part rose p = absurd p
