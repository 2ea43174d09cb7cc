-- What was read of a text, poll by poll.
use Rattle.std.proofs.Common.{ℕ, List, [], ◌∷◌, ◌++◌, ◌≡◌, ◌+◌, ◌<◌, ◌≤◌, refl, ap, sym, ◌∙◌, subst, arith}
use Rattle.std.proofs.Common.{Option, Some, None, length, length-append, append-nil}
use Rattle.std.proofs.lemmas.List.Sums.{fold-append}
use Rattle.fnc_journal.specs.declared.limits.TheConstants.{LONGEST_JOURNAL_LINE}
use Rattle.fnc_journal.specs.declared.outcome.Outcome.{Outcome}
use Rattle.fnc_outside.specs.Events.{Happening}
use Rattle.fnc_outside.proofs.Telling.{then-rose}
use Rattle.fnc_told.specs.Read.{Gave}
use Rattle.fnc_told.specs.SourceAndSink.{Change, SourceTold, change}
use Rattle.fnc_told.proofs.Reading.{gave-gave, gave-none}
use Rattle.fnc_audit.specs.declared.reading.Taken.{Taken}
use Rattle.fnc_audit.specs.declared.text.Awaited.{Awaited}
use Rattle.fnc_audit.specs.Reading.{Adds, EndsReading, GaveEvent, IsStop, Polls, Reads, ReadsSoFar, ended}
use Rattle.fnc_audit.specs.TextRead.{IsGood, TextRead, text_read, with_event}
use Rattle.fnc_audit.specs.Texted.{Texted, read, read_by}

-- an event more
read-more : (limit : ℕ) (events : List Happening) (event : Happening) →
    text_read limit (events ++ event ∷ []) ≡ with_event limit (text_read limit events) event
read-more limit events event = fold-append (with_event limit) TextRead.Nothing events (event ∷ [])

-- the lines of a text that is kept were what they should be
good-read : (t : Texted) → IsGood (read t)
good-read t = go t.awaited
  where
    go : (a : Awaited) → IsGood (read_by a t.history)
    go Awaited.Head = tt
    go Awaited.Entry = tt

-- nothing was read before the first poll
pub reads-none : (told : SourceTold) (t : Texted) → t.awaited ≡ Awaited.Head → ReadsSoFar (change told told) 0 t
reads-none told t head = record {
  events = [];
  gave = gave-none LONGEST_JOURNAL_LINE told;
  polled = refl;
  reads = ap (λ (a : Awaited). read_by a t.history) (sym head);
}

module _ (start : SourceTold) (source : Change SourceTold) (made : ℕ) (old new : Texted)
    (so_far : ReadsSoFar (change start source.before) made old) (same : new.limit ≡ old.limit)
    (later : start.faults ≤ source.before.faults)
  where
    -- the events so far, and one more
    reads-event : (event : Happening) →
        text_read new.limit (so_far.events ++ event ∷ []) ≡ with_event old.limit (read old) event
    reads-event event =
        ap (λ n. text_read n (so_far.events ++ event ∷ [])) same
        ∙ read-more old.limit so_far.events event
        ∙ ap (λ (r : TextRead). with_event old.limit r event) so_far.reads

    gave-event : (event : Happening) → Gave LONGEST_JOURNAL_LINE source (event ∷ []) →
        Gave LONGEST_JOURNAL_LINE (change start source.after) (so_far.events ++ event ∷ [])
    gave-event event g = gave-gave LONGEST_JOURNAL_LINE start source so_far.events (event ∷ []) so_far.gave g

    one-more : (event : Happening) → length (so_far.events ++ event ∷ []) ≡ made + 1
    one-more event =
        let n = length-append so_far.events (event ∷ []) in let m = so_far.polled in omega (arith, n, m)

    gave-same : Gave LONGEST_JOURNAL_LINE source [] →
        Gave LONGEST_JOURNAL_LINE (change start source.after) so_far.events
    gave-same g =
        subst (Gave LONGEST_JOURNAL_LINE (change start source.after)) (append-nil so_far.events)
        (gave-gave LONGEST_JOURNAL_LINE start source so_far.events [] so_far.gave g)

    same-read : text_read new.limit so_far.events ≡ read old
    same-read = ap (λ n. text_read n so_far.events) same ∙ so_far.reads

    good-so-far : IsGood (text_read new.limit so_far.events)
    good-so-far = subst IsGood (sym same-read) (good-read old)

    -- the reading goes on
    pub reads-more : Polls Taken.More source old new → ReadsSoFar (change start source.after) (made + 1) new
    reads-more g = record {
      events = so_far.events ++ g.event ∷ [];
      gave = gave-event g.event g.gave;
      polled = one-more g.event;
      reads = reads-event g.event ∙ sym g.does;
    }

    -- the source is at its end
    pub reads-over : (polls : ℕ) → made < polls → Polls Taken.Over source old new →
        Reads None (change start source.after) polls new
    reads-over polls less g = record {
      events = so_far.events;
      gave = gave-same g.1;
      few = omega (arith, less, so_far.polled);
      ends = (same-read ∙ sym g.0, omega (arith, less, so_far.polled), g.2);
    }

    -- a line ended the reading
    reads-stop : (polls : ℕ) (o : Outcome) → made < polls →
        (g : GaveEvent source (λ event. IsStop o old.limit (with_event old.limit (read old) event))) →
        (IsStop o new.limit (text_read new.limit (so_far.events ++ g.event ∷ [])) →
        EndsReading (Some o) (change start source.after) polls (length (so_far.events ++ g.event ∷ []))
        (text_read new.limit (so_far.events ++ g.event ∷ [])) new) →
        Reads (Some o) (change start source.after) polls new
    reads-stop polls o less g ends = record {
      events = so_far.events ++ g.event ∷ [];
      gave = gave-event g.event g.gave;
      few = let n = one-more g.event in omega (arith, less, n);
      ends =
          ends (subst (λ n. IsStop o n (text_read new.limit (so_far.events ++ g.event ∷ []))) (sym same)
          (subst (IsStop o old.limit) (sym (reads-event g.event)) g.does));
    }

    -- the reading ended by an outcome
    pub reads-ended : (polls : ℕ) (o : Outcome) → made < polls → Polls (Taken.Ended o) source old new →
        Reads (Some o) (change start source.after) polls new
    reads-ended polls Outcome.ReadFault less g = record {
      events = so_far.events;
      gave = gave-same g.0;
      few = omega (arith, less, so_far.polled);
      ends = (good-so-far, omega (arith, less, so_far.polled), then-rose start.faults source.before.faults source.after.faults later g.1);
    }
    reads-ended polls Outcome.Finished less g = absurd g.does
    reads-ended polls (Outcome.Unlawful index rule) less g = absurd g.does
    reads-ended polls Outcome.Usage less g = absurd g.does
    reads-ended polls Outcome.WriteFault less g = absurd g.does
    reads-ended polls Outcome.Budget less g = absurd g.does
    reads-ended polls Outcome.NoMemory less g = reads-stop polls Outcome.NoMemory less g (λ s. s)
    reads-ended polls (Outcome.BadEntry line) less g = reads-stop polls (Outcome.BadEntry line) less g (λ s. s)
    reads-ended polls (Outcome.JournalFull full) less g = reads-stop polls (Outcome.JournalFull full) less g (λ s. s)

-- all polls were made
pub reads-budget : (source : Change SourceTold) (polls : ℕ) (t : Texted) → ReadsSoFar source polls t →
    Reads (Some Outcome.Budget) source polls t
reads-budget source polls t k = record {
  events = k.events;
  gave = k.gave;
  few = omega (arith, k.polled);
  ends = (subst IsGood (sym k.reads) (good-read t), k.polled);
}

-- what a poll came to that gave a line
pub polls-line : (o : Option Outcome) (event : Happening) (source : Change SourceTold) (old new : Texted) →
    Gave LONGEST_JOURNAL_LINE source (event ∷ []) → Adds o (with_event old.limit (read old) event) old new →
    Polls (ended o) source old new
polls-line None event source old new g a = record { event = event; gave = g; does = a }
polls-line (Some Outcome.NoMemory) event source old new g a = record { event = event; gave = g; does = a }
polls-line (Some (Outcome.BadEntry line)) event source old new g a =
    record { event = event; gave = g; does = a }
polls-line (Some (Outcome.JournalFull full)) event source old new g a =
    record { event = event; gave = g; does = a }
polls-line (Some Outcome.Finished) event source old new g a = absurd a
polls-line (Some (Outcome.Unlawful index rule)) event source old new g a = absurd a
polls-line (Some Outcome.Usage) event source old new g a = absurd a
polls-line (Some Outcome.ReadFault) event source old new g a = absurd a
polls-line (Some Outcome.WriteFault) event source old new g a = absurd a
polls-line (Some Outcome.Budget) event source old new g a = absurd a
