-- Why a call ends: by the reading of its text, or by what is written at the end of that.
use Rattle.std.proofs.Common.{ℕ, [], ◌≡◌, ◌<◌, refl, ap, sym, ◌∙◌, subst, arith, Some, None, length, inl, inr}
use Rattle.fnc_journal.specs.declared.limits.TheConstants.{LONGEST_JOURNAL_LINE}
use Rattle.fnc_journal.specs.declared.outcome.Outcome.{Outcome}
use Rattle.fnc_journal.specs.History.{History}
use Rattle.fnc_told.specs.Held.{Holds}
use Rattle.fnc_told.specs.SourceAndSink.{Change, SinkTold, SourceTold, change}
use Rattle.fnc_told.proofs.Reading.{gains-none, gave-none}
use Rattle.std.specs.Prelude.{◌⊎◌}
use Rattle.fnc_audit.specs.Audits.{Audits, Call, Ends, IsComplete, Stops, full_at}
use Rattle.fnc_audit.specs.Reading.{EndsReading, Finishes, Reads}
use Rattle.fnc_audit.specs.Said.{Said}
use Rattle.fnc_audit.specs.TextRead.{IsGood, TextRead, text_read}
use Rattle.fnc_audit.specs.Texted.{Texted, read, read_by}
use Rattle.fnc_audit.specs.declared.text.Awaited.{Awaited}

-- lines that were what they should be end nothing by themselves
good-stops : (o : Outcome) (c : Call) (events : ℕ) (r : TextRead) → IsGood r →
    (events ≡ c.polls → o ≡ Outcome.Budget) → Stops o c events r
good-stops o c events TextRead.Nothing good last = last
good-stops o c events (TextRead.Entries h) good last = last
good-stops o c events (TextRead.Bad line) good last = absurd good
good-stops o c events TextRead.Above good last = absurd good

-- the last poll that was allowed was not made
not-last : (o : Outcome) (events polls : ℕ) → events < polls → events ≡ polls → o ≡ Outcome.Budget
not-last o events polls less last = absurd (omega (arith, less, last))

good-by : (a : Awaited) (h : History) → IsGood (read_by a h)
good-by Awaited.Head h = tt
good-by Awaited.Entry h = tt

module _ (says : History → Said) (source : Change SourceTold) (sink : Change SinkTold) (limit polls : ℕ) (t : Texted)
    (same : t.limit ≡ limit)
  where
    abbrev call : Call
    call = record { source = source; sink = sink; limit = limit; polls = polls }

    -- the reading ended by an outcome, and nothing was written
    pub audits-ended : (o : Outcome) → Reads (Some o) source polls t → Holds sink [] →
        Audits says o (record { source = source; sink = sink; limit = limit; polls = polls })
    audits-ended o k none = record {
      events = k.events;
      gave = k.gave;
      few = k.few;
      ends = ends o (length k.events) (text_read limit k.events) by;
      exact = exact o (length k.events) (text_read limit k.events) by;
    }
      where
        by : EndsReading (Some o) source polls (length k.events) (text_read limit k.events) t
        by =
            subst (λ n. EndsReading (Some o) source polls (length k.events) (text_read n k.events) t) same k.ends

        ends : (o : Outcome) (n : ℕ) (r : TextRead) → EndsReading (Some o) source polls n r t → Ends says o call n r
        ends Outcome.ReadFault n r e = (none, e.0, e.1, e.2)
        ends Outcome.Budget n r e = (none, e.0, e.1)
        ends Outcome.NoMemory n r e = none
        ends (Outcome.BadEntry line) n r e = (none, inl e)
        ends (Outcome.JournalFull full) n r e = (none, e.0, e.1 ∙ ap full_at same)
        ends Outcome.Finished n r e = absurd e
        ends (Outcome.Unlawful index rule) n r e = absurd e
        ends Outcome.Usage n r e = absurd e
        ends Outcome.WriteFault n r e = absurd e

        exact : (o : Outcome) (n : ℕ) (r : TextRead) → EndsReading (Some o) source polls n r t →
            (o ≡ Outcome.NoMemory) ⊎ Stops o call n r
        exact Outcome.ReadFault n r e =
            inr (good-stops Outcome.ReadFault call n r e.0 (not-last Outcome.ReadFault n polls e.1))
        exact Outcome.Budget n r e = inr (good-stops Outcome.Budget call n r e.0 (λ last. refl))
        exact Outcome.NoMemory n r e = inl refl
        exact (Outcome.BadEntry line) n r e = inr (subst (Stops (Outcome.BadEntry line) call n) (sym e) refl)
        exact (Outcome.JournalFull full) n r e =
            inr (subst (Stops (Outcome.JournalFull full) call n) (sym e.0)
            (ap Outcome.JournalFull (e.1 ∙ ap full_at same)))
        exact Outcome.Finished n r e = absurd e
        exact (Outcome.Unlawful index rule) n r e = absurd e
        exact Outcome.Usage n r e = absurd e
        exact Outcome.WriteFault n r e = absurd e

    -- the source was read to its end, and this was made of the text
    pub audits-finished : (o : Outcome) → Reads None source polls t → Finishes says o sink (read t) →
        Audits says o (record { source = source; sink = sink; limit = limit; polls = polls })
    audits-finished o k f = record {
      events = k.events;
      gave = k.gave;
      few = k.few;
      ends = ends o (subst (Finishes says o sink) (sym whole) f);
      exact =
          inr (good-stops o call (length k.events) (text_read limit k.events)
          (subst IsGood (sym whole) (good-by t.awaited t.history)) (not-last o (length k.events) polls k.ends.1));
    }
      where
        whole : text_read limit k.events ≡ read t
        whole = ap (λ n. text_read n k.events) (sym same) ∙ k.ends.0

        ends : (o : Outcome) → Finishes says o sink (text_read limit k.events) →
            Ends says o call (length k.events) (text_read limit k.events)
        ends Outcome.Finished f = ((k.ends.1, k.ends.2), f)
        ends (Outcome.Unlawful index rule) f = ((k.ends.1, k.ends.2), f)
        ends Outcome.WriteFault f = ((k.ends.1, k.ends.2), f)
        ends (Outcome.BadEntry line) f = (f.0, inr ((k.ends.1, k.ends.2), f.1))
        ends Outcome.Usage f = absurd f
        ends Outcome.ReadFault f = absurd f
        ends Outcome.NoMemory f = absurd f
        ends Outcome.Budget f = absurd f
        ends (Outcome.JournalFull full) f = absurd f

-- memory was refused before the first poll
pub audits-unopened : (says : History → Said) (source : SourceTold) (sink : SinkTold) (limit polls : ℕ) →
    Audits says Outcome.NoMemory (record {
      source = change source source;
      sink = change sink sink;
      limit = limit;
      polls = polls;
    })
audits-unopened says source sink limit polls = record {
  events = [];
  gave = gave-none LONGEST_JOURNAL_LINE source;
  few = omega arith;
  ends = gains-none sink.held;
  exact = inl refl;
}

-- where no count of faults rose, a call ends by what its source gave, or for want of memory
pub complete-of : (says : History → Said) (o : Outcome) (c : Call) → Audits says o c → IsComplete o c
complete-of says Outcome.Finished c a = λ reads writes. tt
complete-of says (Outcome.Unlawful index rule) c a = λ reads writes. tt
complete-of says Outcome.Usage c a = λ reads writes. a.ends
complete-of says Outcome.ReadFault c a = λ reads writes. reads a.ends.3
complete-of says Outcome.WriteFault c a = λ reads writes. writes a.ends.1.faulted
complete-of says Outcome.NoMemory c a = λ reads writes. tt
complete-of says Outcome.Budget c a = λ reads writes. tt
complete-of says (Outcome.BadEntry line) c a = λ reads writes. tt
complete-of says (Outcome.JournalFull full) c a = λ reads writes. tt
