-- How the inputs of a journal go on being those of the lines that came.
use Rattle.std.proofs.Common.{
  ℕ,
  List,
  [],
  ◌∷◌,
  ◌++◌,
  Bool,
  true,
  false,
  ◌≡◌,
  ◌+◌,
  ◌<◌,
  refl,
  ap,
  ap₂,
  sym,
  ◌∙◌,
  subst,
  Option,
  Some,
  None,
  arith,
  inl,
  inr,
  cond,
  length,
  length-append,
  append-nil,
  reverse,
}
use Rattle.std.specs.Prelude.{filter, unwrap_or, IfSome}
use Rattle.std.proofs.lemmas.List.{reverse-append}
use Rattle.fnc_journal.specs.declared.entry.Entry.{Entry}
use Rattle.fnc_journal.specs.declared.limits.TheConstants.{LONGEST_LINE}
use Rattle.fnc_journal.specs.declared.outcome.Full.{Full}
use Rattle.fnc_journal.specs.declared.outcome.Outcome.{Outcome}
use Rattle.fnc_journal.specs.History.{History, Journaled}
use Rattle.fnc_journal.specs.Driven.{last_input}
use Rattle.fnc_journal.specs.Found.{is_input}
use Rattle.fnc_journal.specs.Lawful.{last_moment}
use Rattle.fnc_journal.specs.Owed.{owed}
use Rattle.fnc_journal.specs.Served.{AreReplies}
use Rattle.fnc_outside.specs.Events.{Happening}
use Rattle.fnc_core.proofs.Following.{entered-answered, entered-history, entered-last, entered-limit}
use Rattle.fnc_core.specs.Cored.{Cored, IsFull}
use Rattle.fnc_command.specs.declared.command.Mode.{Mode}
use Rattle.fnc_desk.specs.declared.entering.Given.{Given}
use Rattle.fnc_desk.specs.Entered.{next_line}
use Rattle.fnc_desk.specs.Inputs.{Gives, inputs, line_number}
use Rattle.fnc_desk.specs.Lines.{
  AreLines,
  FindsNoRoom,
  GivesNext,
  IsOfLine,
  NewestFindsNoRoom,
  given_at,
  is_line,
  last_come,
  newest_lines,
}
use Rattle.fnc_desk.proofs.Counting.{given-of_line}
use Rattle.fnc_replay.specs.Heard.{Heard, HeardSoFar, HearsOn, HasInputs}
use Rattle.fnc_replay.specs.Polls.{GaveLine, GaveNothing, Serves, Takes}
use Rattle.fnc_replay.specs.declared.taken.Taken.{Taken}
use Rattle.fnc_replay.specs.Rests.{ServesLine}
use Rattle.fnc_told.specs.Read.{Gave}
use Rattle.fnc_replay.specs.Timed.{LacksRoom, nothing, timed}
use Rattle.fnc_told.specs.SourceAndSink.{Change, SinkTold, SourceTold, change}
use Rattle.fnc_told.proofs.Reading.{gave-gave, gave-none}
use Rattle.fnc_replay.specs.Session.{Closes, EndsWriting, IsWriteFault, after_failed_flush, cored}
use Rattle.fnc_replay.proofs.Resting.{AreOutputs, last_input-outputs, outputs-replies, outputs-starts}

-- the lines of one event more
filter-last : (xs : List Happening) (x : Happening) →
    filter is_line (xs ++ x ∷ []) ≡ filter is_line xs ++ filter is_line (x ∷ [])
filter-last [] x = refl
filter-last (y ∷ xs) x = go (is_line y) (filter-last xs x)
  where
    go : (b : Bool) → filter is_line (xs ++ x ∷ []) ≡ filter is_line xs ++ filter is_line (x ∷ []) →
        cond b (y ∷ filter is_line (xs ++ x ∷ [])) (filter is_line (xs ++ x ∷ []))
        ≡ cond b (y ∷ filter is_line xs) (filter is_line xs) ++ filter is_line (x ∷ [])
    go true e = ap (λ zs. y ∷ zs) e
    go false e = e

newest-last : (xs : List Happening) (x : Happening) →
    newest_lines (xs ++ x ∷ []) ≡ newest_lines (x ∷ []) ++ newest_lines xs
newest-last xs x = ap reverse (filter-last xs x) ∙ reverse-append (filter is_line xs) (filter is_line (x ∷ []))

newest-line : (xs : List Happening) (x : Happening) → is_line x ≡ true →
    newest_lines (xs ++ x ∷ []) ≡ x ∷ newest_lines xs
newest-line xs x e = newest-last xs x ∙ rw e refl

-- there are as many inputs as lines
inputs-lines : (limit : ℕ) (h : History) (lines : List Happening) → AreLines (timed limit) h lines →
    inputs Mode.Timed h ≡ length lines
inputs-lines limit [] lines a = sym (ap length a)
inputs-lines limit (e ∷ before) lines a = go (is_input e.event) lines a (inputs-lines limit before)
  where
    go : (b : Bool) (lines : List Happening) → IsOfLine b (timed limit) lines e before (AreLines (timed limit) before) →
        ((lines : List Happening) → AreLines (timed limit) before lines → inputs Mode.Timed before ≡ length lines) →
        cond b (inputs Mode.Timed before + 1) (inputs Mode.Timed before) ≡ length lines
    go false lines a ih = ih lines a
    go true [] a ih = absurd a
    go true (line ∷ lines) a ih = let rest = ih lines a.1 in omega (arith, rest)

-- outputs have no line
lines-outputs : (limit m : ℕ) (os h : History) (lines : List Happening) → AreOutputs m os →
    AreLines (timed limit) h lines → AreLines (timed limit) (os ++ h) lines
lines-outputs limit m [] h lines a l = l
lines-outputs limit m (o ∷ os) h lines a l = rw a.0.0 (lines-outputs limit m os h lines a.1 l)

-- what came with a line in mode Timed does not count
given-any : (line : Happening) (a b : Given) (h : History) (last limit n : ℕ) (e : Entry) →
    Gives Mode.Timed a line h last limit n e → Gives Mode.Timed b line h last limit n e
given-any (Happening.Line bytes) a b h last limit n e g = g
given-any (Happening.TooLong size) a b h last limit n e g = g
given-any Happening.Again a b h last limit n e g = g

-- what a line gave with the last moment and its number, it gave with those of the lines that came
gives-heard : (line : Happening) (lines : List Happening) (old : Cored) (e : Entry) (m : ℕ) (rs : History) →
    AreReplies m rs → AreLines (timed old.limit) old.history lines → last_come old.history ≡ old.last →
    Gives Mode.Timed nothing line (rs ++ old.history) old.last old.limit (next_line Mode.Timed old) e →
    GivesNext (timed old.limit) (length lines) line (rs ++ old.history) e
gives-heard line lines old e m rs r a l g =
    given-any line nothing (given_at (timed old.limit) (length lines) e) (rs ++ old.history)
    (last_come (rs ++ old.history)) old.limit (line_number (length lines)) e
    (subst
    (λ n. Gives Mode.Timed nothing line (rs ++ old.history) n old.limit (line_number (length lines)) e)
    (sym (last_come-replies ∙ l))
    (subst (λ n. Gives Mode.Timed nothing line (rs ++ old.history) old.last old.limit (line_number n) e)
    (inputs-lines old.limit old.history lines a) g))
  where
    last_come-replies : last_come (rs ++ old.history) ≡ last_come old.history
    last_come-replies =
        ap (λ (o : Option ℕ). unwrap_or o 0) (last_input-outputs m rs old.history (outputs-replies m rs r))

-- a line that was served gave the newest input
pub lines-served : (line : Happening) (lines : List Happening) (old new : Cored) →
    AreLines (timed old.limit) old.history lines → last_come old.history ≡ old.last → ServesLine line old new →
    AreLines (timed new.limit) new.history (line ∷ lines)
lines-served line lines old new a l s =
    subst (λ n. AreLines (timed n) new.history (line ∷ lines)) (sym limits)
    (subst (λ (h : History). AreLines (timed old.limit) h (line ∷ lines)) (sym whole)
    (lines-outputs old.limit s.mid.last s.starts.some.starts _ (line ∷ lines)
    (outputs-starts s.mid.last s.starts.some.starts s.starts.some.started)
    (lines-outputs old.limit s.takes.entry.moment s.takes.enters.follows.replies _ (line ∷ lines)
    (outputs-replies s.takes.entry.moment s.takes.enters.follows.replies (entered-answered s.takes.enters)) here)))
  where
    limits : new.limit ≡ old.limit
    limits = s.starts.some.limit ∙ entered-limit s.takes.enters

    met : History
    met = s.takes.enters.advances.advance ++ old.history

    whole : new.history ≡ s.starts.some.starts ++ (s.takes.enters.follows.replies ++ s.takes.entry ∷ met)
    whole = s.starts.some.history ∙ ap (λ (h : History). s.starts.some.starts ++ h) (entered-history s.takes.enters)

    here : AreLines (timed old.limit) (s.takes.entry ∷ met) (line ∷ lines)
    here =
        let is : is_input s.takes.entry.event ≡ true =
        given-of_line Mode.Timed nothing line met old.last old.limit _ s.takes.entry s.takes.is in
        rw is (
          gives-heard line lines old s.takes.entry s.takes.entry.moment s.takes.enters.advances.advance
              s.takes.enters.advances.at_once a l s.takes.is,
          lines-outputs old.limit s.takes.entry.moment s.takes.enters.advances.advance old.history lines
              (outputs-replies s.takes.entry.moment s.takes.enters.advances.advance s.takes.enters.advances.at_once) a,
        )

-- and its moment is the last
pub last-served : (line : Happening) (old new : Cored) → ServesLine line old new → last_come new.history ≡ new.last
last-served line old new s =
    ap (λ (o : Option ℕ). unwrap_or o 0) found ∙ sym (s.starts.some.last ∙ entered-last s.takes.enters)
  where
    is : is_input s.takes.entry.event ≡ true
    is =
        given-of_line Mode.Timed nothing line (s.takes.enters.advances.advance ++ old.history) old.last old.limit _
        s.takes.entry s.takes.is

    found : last_input new.history ≡ Some s.takes.entry.moment
    found =
        ap last_input (s.starts.some.history
        ∙ ap (λ (h : History). s.starts.some.starts ++ h) (entered-history s.takes.enters))
        ∙ last_input-outputs s.mid.last s.starts.some.starts _
        (outputs-starts s.mid.last s.starts.some.starts s.starts.some.started)
        ∙ last_input-outputs s.takes.entry.moment s.takes.enters.follows.replies _
        (outputs-replies s.takes.entry.moment s.takes.enters.follows.replies (entered-answered s.takes.enters))
        ∙ rw is refl

-- a line that finds no room
pub lacks-room : (line : Happening) (lines : List Happening) (full : Full) (old new : Cored) →
    AreLines (timed old.limit) old.history lines → last_come old.history ≡ old.last → LacksRoom line old new full →
    NewestFindsNoRoom (timed new.limit) (line ∷ lines) new full
lacks-room line lines full old new a l k =
    subst (λ n. NewestFindsNoRoom (timed n) (line ∷ lines) new full) (sym k.advances.limit) (
      subst (λ (h : History). AreLines (timed old.limit) h lines) (sym k.advances.history)
          (lines-outputs old.limit k.entry.moment k.advances.advance old.history lines
          (outputs-replies k.entry.moment k.advances.advance k.advances.at_once) a),
      record {
        entry = k.entry;
        gives =
            subst (λ (h : History). GivesNext (timed old.limit) (length lines) line h k.entry) (sym k.advances.history)
            (gives-heard line lines old k.entry k.entry.moment k.advances.advance k.advances.at_once a l k.is);
        no_exit = k.no_exit;
        is_full = k.is_full;
      },
    )

-- what was served is what the source gave
pub takes-line : (t : Taken) (line : Happening) (source : Change SourceTold) (old new : Cored) → is_line line ≡ true →
    Gave LONGEST_LINE source (line ∷ []) → Serves t line old new → Takes t source old new
takes-line Taken.Served line source old new i g s =
    record { line = line; is_line_given = i; gave = g; does = s }
takes-line (Taken.Full full) line source old new i g s =
    record { line = line; is_line_given = i; gave = g; does = s }
takes-line Taken.Nothing line source old new i g s = absurd s
takes-line Taken.Over line source old new i g s = absurd s
takes-line Taken.Failed line source old new i g s = absurd s

-- nothing was heard before the first poll
pub heard-none : (told : SourceTold) (v : Cored) → v.history ≡ [] → v.last ≡ 0 → HeardSoFar (change told told) 0 v
heard-none told v h l = record {
  events = [];
  gave = gave-none LONGEST_LINE told;
  polled = refl;
  inputs = subst (λ (x : History). AreLines (timed v.limit) x []) (sym h) refl;
  last = ap last_come h ∙ sym l;
}

-- no line was there yet
heard-nothing : (start : SourceTold) (source : Change SourceTold) (made : ℕ) (old new : Cored) →
    HeardSoFar (change start source.before) made old → new ≡ old → Gave LONGEST_LINE source (Happening.Again ∷ []) →
    HeardSoFar (change start source.after) (made + 1) new
heard-nothing start source made old new k e g =
    subst (λ (v : Cored). HeardSoFar (change start source.after) (made + 1) v) (sym e) (record {
      events = k.events ++ Happening.Again ∷ [];
      gave = gave-gave LONGEST_LINE start source k.events (Happening.Again ∷ []) k.gave g;
      polled = let n = length-append k.events (Happening.Again ∷ []) in let m = k.polled in omega (arith, n, m);
      inputs = subst (AreLines (timed old.limit) old.history) (sym (newest-last k.events Happening.Again)) k.inputs;
      last = k.last;
    })

-- a line was served
heard-line : (start : SourceTold) (source : Change SourceTold) (made : ℕ) (old new : Cored) →
    HeardSoFar (change start source.before) made old → GaveLine source (λ line. ServesLine line old new) →
    HeardSoFar (change start source.after) (made + 1) new
heard-line start source made old new k g = record {
  events = k.events ++ g.line ∷ [];
  gave = gave-gave LONGEST_LINE start source k.events (g.line ∷ []) k.gave g.gave;
  polled = let n = length-append k.events (g.line ∷ []) in let m = k.polled in omega (arith, n, m);
  inputs =
      subst (AreLines (timed new.limit) new.history) (sym (newest-line k.events g.line g.is_line_given))
      (lines-served g.line (newest_lines k.events) old new k.inputs k.last g.does);
  last = last-served g.line old new g.does;
}

-- the session goes on, or a write or a flush failed
hears-on : (r : Option Outcome) (source : Change SourceTold) (made : ℕ) (sink : Change SinkTold)
    (new : Cored) → HeardSoFar source made new → IfSome r (λ o. IsWriteFault o sink) →
    HearsOn r source made new
hears-on None source made sink new k f = k
hears-on (Some Outcome.WriteFault) source made sink new k f =
    record { events = k.events; gave = k.gave; polled = inl k.polled; inputs = k.inputs }
hears-on (Some Outcome.Finished) source made sink new k f = absurd f
hears-on (Some Outcome.ReadFault) source made sink new k f = absurd f
hears-on (Some Outcome.Budget) source made sink new k f = absurd f
hears-on (Some (Outcome.JournalFull full)) source made sink new k f = absurd f
hears-on (Some Outcome.Usage) source made sink new k f = absurd f
hears-on (Some Outcome.NoMemory) source made sink new k f = absurd f
hears-on (Some (Outcome.Unlawful index rule)) source made sink new k f = absurd f
hears-on (Some (Outcome.BadEntry line)) source made sink new k f = absurd f

-- after a poll that found no line
pub heard-again : (r : Option Outcome) (start : SourceTold) (source : Change SourceTold) (made : ℕ)
    (sink : Change SinkTold) (old new : Cored) → HeardSoFar (change start source.before) made old → new ≡ old →
    Gave LONGEST_LINE source (Happening.Again ∷ []) → IfSome r (λ o. IsWriteFault o sink) →
    HearsOn r (change start source.after) (made + 1) new
heard-again r start source made sink old new k e g f =
    hears-on r (change start source.after) (made + 1) sink new (heard-nothing start source made old new k e g) f

-- after a poll that gave a line
pub heard-served : (r : Option Outcome) (start : SourceTold) (source : Change SourceTold) (made : ℕ)
    (sink : Change SinkTold) (old new : Cored) → HeardSoFar (change start source.before) made old →
    GaveLine source (λ line. ServesLine line old new) → IfSome r (λ o. IsWriteFault o sink) →
    HearsOn r (change start source.after) (made + 1) new
heard-served r start source made sink old new k g f =
    hears-on r (change start source.after) (made + 1) sink new (heard-line start source made old new k g) f

-- a line found no room
pub heard-full : (start : SourceTold) (source : Change SourceTold) (made : ℕ) (full : Full)
    (old new : Cored) → HeardSoFar (change start source.before) made old →
    GaveLine source (λ line. LacksRoom line old new full) →
    Heard (Outcome.JournalFull full) (change start source.after) (made + 1) new
heard-full start source made full old new k g = record {
  events = k.events ++ g.line ∷ [];
  gave = gave-gave LONGEST_LINE start source k.events (g.line ∷ []) k.gave g.gave;
  polled = let n = length-append k.events (g.line ∷ []) in let m = k.polled in omega (arith, n, m);
  inputs =
      subst (λ (lines : List Happening). NewestFindsNoRoom (timed new.limit) lines new full)
      (sym (newest-line k.events g.line g.is_line_given))
      (lacks-room g.line (newest_lines k.events) full old new k.inputs k.last g.does);
}

-- the source is at its end
pub heard-end : (o : Outcome) (start : SourceTold) (source : Change SourceTold) (made : ℕ)
    (sink : Change SinkTold) (old new : Cored) → HeardSoFar (change start source.before) made old → new ≡ old →
    GaveNothing source → EndsWriting o sink → Heard o (change start source.after) (made + 1) new
heard-end o start source made sink old new k e g f =
    subst (λ (v : Cored). Heard o (change start source.after) (made + 1) v) (sym e) (go o f)
  where
    events : List Happening
    events = k.events ++ []

    gave : Gave LONGEST_LINE (change start source.after) events
    gave = gave-gave LONGEST_LINE start source k.events [] k.gave g

    polled : length events + 1 ≡ made + 1
    polled =
        let n : length events ≡ length k.events = ap length (append-nil k.events) in
        let m = k.polled in
        omega (arith, n, m)

    lines : AreLines (timed old.limit) old.history (newest_lines events)
    lines = subst (λ (es : List Happening). AreLines (timed old.limit) old.history (newest_lines es)) (sym (append-nil k.events)) k.inputs

    go : (o : Outcome) → EndsWriting o sink → Heard o (change start source.after) (made + 1) old
    go Outcome.Finished f = record { events = events; gave = gave; polled = polled; inputs = lines }
    go Outcome.WriteFault f = record { events = events; gave = gave; polled = inr polled; inputs = lines }
    go Outcome.ReadFault f = absurd f
    go Outcome.Budget f = absurd f
    go (Outcome.JournalFull full) f = absurd f
    go Outcome.Usage f = absurd f
    go Outcome.NoMemory f = absurd f
    go (Outcome.Unlawful index rule) f = absurd f
    go (Outcome.BadEntry line) f = absurd f

-- a read failed
pub heard-fault : (start : SourceTold) (source : Change SourceTold) (made : ℕ) (old new : Cored) →
    HeardSoFar (change start source.before) made old → new ≡ old → GaveNothing source →
    Heard Outcome.ReadFault (change start source.after) (made + 1) new
heard-fault start source made old new k e g =
    subst (λ (v : Cored). Heard Outcome.ReadFault (change start source.after) (made + 1) v) (sym e) (record {
      events = k.events ++ [];
      gave = gave-gave LONGEST_LINE start source k.events [] k.gave g;
      polled =
          let n : length (k.events ++ []) ≡ length k.events = ap length (append-nil k.events) in
          let m = k.polled in
          omega (arith, n, m);
      inputs =
          subst (λ (es : List Happening). AreLines (timed old.limit) old.history (newest_lines es)) (sym (append-nil k.events)) k.inputs;
    })

-- the allowed polls were made
pub heard-budget : (source : Change SourceTold) (made : ℕ) (v : Cored) → HeardSoFar source made v →
    Heard Outcome.Budget source made v
heard-budget source made v k =
    record { events = k.events; gave = k.gave; polled = k.polled; inputs = k.inputs }

-- nothing was read where the first write failed
pub opened : (o : Outcome) (told : SourceTold) (sink : Change SinkTold) (v : Cored) → IsWriteFault o sink →
    HeardSoFar (change told told) 0 v → Heard o (change told told) 0 v
opened Outcome.WriteFault told sink v f k =
    record { events = k.events; gave = k.gave; polled = inl k.polled; inputs = k.inputs }
opened Outcome.Finished told sink v f k = absurd f
opened Outcome.ReadFault told sink v f k = absurd f
opened Outcome.Budget told sink v f k = absurd f
opened (Outcome.JournalFull full) told sink v f k = absurd f
opened Outcome.Usage told sink v f k = absurd f
opened Outcome.NoMemory told sink v f k = absurd f
opened (Outcome.Unlawful index rule) told sink v f k = absurd f
opened (Outcome.BadEntry line) told sink v f k = absurd f

-- where the last flush fails, as much was heard
heard-failed : (o : Outcome) (source : Change SourceTold) (polls : ℕ) (v : Cored) →
    Heard o source polls v →
    Heard (after_failed_flush o) source polls v
heard-failed Outcome.Finished source polls v k =
    record { events = k.events; gave = k.gave; polled = inr k.polled; inputs = k.inputs }
heard-failed Outcome.Budget source polls v k =
    record { events = k.events; gave = k.gave; polled = inl k.polled; inputs = k.inputs }
heard-failed Outcome.WriteFault source polls v k = k
heard-failed Outcome.ReadFault source polls v k = k
heard-failed (Outcome.JournalFull full) source polls v k = k
heard-failed Outcome.Usage source polls v k = k
heard-failed Outcome.NoMemory source polls v k = k
heard-failed (Outcome.Unlawful index rule) source polls v k = k
heard-failed (Outcome.BadEntry line) source polls v k = k

pub heard-closed : (o closed : Outcome) (sink : Change SinkTold) (source : Change SourceTold) (polls : ℕ)
    (v : Cored) → Closes o closed sink → Heard o source polls v → Heard closed source polls v
heard-closed o closed sink source polls v c k = elim c [
  | inl same ↦ subst (λ x. Heard x source polls v) (sym same) k
  | inr failed ↦ subst (λ x. Heard x source polls v) (sym failed.0) (heard-failed o source polls v k)
]

-- what was heard is heard of the journal that is handed back
pub heard-cored : (o : Outcome) (source : Change SourceTold) (polls : ℕ) (v : Cored) (j : Journaled) →
    j.history ≡ v.history → j.limit ≡ v.limit → Heard o source polls v → Heard o source polls (cored j)
heard-cored o source polls v j e l k =
    record { events = k.events; gave = k.gave; polled = k.polled; inputs = go o (newest_lines k.events) k.inputs }
  where
    lines : (xs : List Happening) → AreLines (timed v.limit) v.history xs → AreLines (timed j.limit) j.history xs
    lines xs a =
        subst (λ n. AreLines (timed n) j.history xs) (sym l)
        (subst (λ (h : History). AreLines (timed v.limit) h xs) (sym e) a)

    full-is : (n : ℕ) (full : Full) → IsFull v n full → IsFull (cored j) n full
    full-is n full f = moved j.history j.limit e l
      where
        moved : (h : History) (limit : ℕ) → h ≡ v.history → limit ≡ v.limit →
            IsFull (record { history = h; last = last_moment h; limit = limit }) n full
        moved h limit e l = record {
          says =
              f.says ∙ ap₂ (λ (x : History) (k : ℕ). record { entries = length x; owed = owed x; need = n; limit = k })
              (sym e) (sym l);
          above =
              subst (λ (x : History). limit < length x + owed x + n) (sym e)
              (subst (λ k. k < length v.history + owed v.history + n) (sym l) f.above);
        }

    room : (line : Happening) (xs : List Happening) (full : Full) → FindsNoRoom (timed v.limit) line xs v full →
        FindsNoRoom (timed j.limit) line xs (cored j) full
    room line xs full f = record {
      entry = f.entry;
      gives =
          subst (λ n. GivesNext (timed n) (length xs) line j.history f.entry) (sym l)
          (subst (λ (h : History). GivesNext (timed v.limit) (length xs) line h f.entry) (sym e) f.gives);
      no_exit = f.no_exit;
      is_full = full-is 1 full f.is_full;
    }

    newest : (xs : List Happening) (full : Full) → NewestFindsNoRoom (timed v.limit) xs v full →
        NewestFindsNoRoom (timed j.limit) xs (cored j) full
    newest [] full f = f
    newest (line ∷ xs) full f = (lines xs f.0, room line xs full f.1)

    go : (o : Outcome) (xs : List Happening) → HasInputs o xs v → HasInputs o xs (cored j)
    go (Outcome.JournalFull full) xs i = newest xs full i
    go Outcome.Finished xs i = lines xs i
    go Outcome.WriteFault xs i = lines xs i
    go Outcome.ReadFault xs i = lines xs i
    go Outcome.Budget xs i = lines xs i
    go Outcome.Usage xs i = lines xs i
    go Outcome.NoMemory xs i = lines xs i
    go (Outcome.Unlawful index rule) xs i = lines xs i
    go (Outcome.BadEntry line) xs i = lines xs i
