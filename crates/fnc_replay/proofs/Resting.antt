-- How a line, served in full, leaves the session at rest.
use Rattle.std.proofs.Common.{ℕ, [], ◌∷◌, ◌++◌, Bool, true, false, ◌≡◌, ◌≤◌, ◌<◌, refl, ap, sym, ◌∙◌, subst, Option, Some, None, IsTrue, arith, inl, inr, ◌==◌, eq-eqb, eqb-true, false-eqb, ap₂, ◌+◌, length}
use Rattle.std.specs.Prelude.{◌⊎◌}
use Rattle.std.specs.List.{AllByRecursion}
use Rattle.fnc_journal.specs.declared.entry.Entry.{Entry}
use Rattle.fnc_journal.specs.declared.event.Event.{Event}
use Rattle.fnc_journal.specs.declared.outcome.Full.{Full}
use Rattle.fnc_journal.specs.declared.outcome.Outcome.{Outcome}
use Rattle.fnc_journal.specs.History.{History, Journaled}
use Rattle.fnc_journal.specs.Owed.{owed}
use Rattle.fnc_journal.specs.Found.{is_input, is_reply, is_start}
use Rattle.fnc_journal.specs.Lawful.{Lawful, in_order, last_moment}
use Rattle.fnc_journal.specs.Driven.{Driven, DrivenInputs, last_input, is_at_once, rests, rests_before}
use Rattle.fnc_journal.specs.Served.{AtRest, AreReplies}
use Rattle.fnc_journal.proofs.Lawfulness.{in_order-of}
use Rattle.fnc_journal.proofs.DrivenSteps.{reply-no_input, rests-next, rests-same, rests-end, rests_before-output}
use Rattle.fnc_core.proofs.Following.{entered-answered, entered-history, entered-last}
use Rattle.fnc_core.specs.Cored.{Cored, IsFull, Sound, Starts}
use Rattle.fnc_core.specs.declared.change.Started.{Started}
use Rattle.fnc_command.specs.declared.command.Mode.{Mode}
use Rattle.fnc_desk.proofs.Counting.{given-of_line}
use Rattle.fnc_told.specs.Held.{SinkFaulted}
use Rattle.fnc_replay.specs.Timed.{LacksRoom, TakesLine, nothing}
use Rattle.fnc_replay.specs.Rests.{Rests, AreStarts, StartsSome, StartsAll, ServesLine}
use Rattle.fnc_replay.specs.Session.{
  Closes,
  EndsBy,
  EndsSession,
  IsComplete,
  HasCause,
  IsServed,
  PollCounts,
  Turns,
  after_failed_flush,
  cored,
}
use Rattle.fnc_told.specs.SourceAndSink.{Change, SinkTold, SourceTold, change}
use Rattle.fnc_outside.specs.Events.{Happening}
use Rattle.fnc_outside.proofs.Telling.{rose-then, then-rose}

start-no_input : (event : Event) → is_start event ≡ true → is_input event ≡ false
start-no_input (Event.Start start) q = refl
start-no_input (Event.Device device) q = cc
start-no_input (Event.Gone reg) q = cc
start-no_input (Event.Level set) q = cc
start-no_input (Event.LevelGone cleared) q = cc
start-no_input (Event.Agent described) q = cc
start-no_input (Event.Ask ask) q = cc
start-no_input (Event.Exit ended) q = cc
start-no_input Event.Pass q = cc
start-no_input (Event.Confirm confirmation) q = cc
start-no_input (Event.Refused refusal) q = cc
start-no_input (Event.Reply reply) q = cc

-- outputs of one moment
abbrev pub AreOutputs : ℕ → History → Type 0
AreOutputs m xs = AllByRecursion (λ e. (is_input e.event ≡ false) × (e.moment ≡ m)) xs

pub outputs-starts : (m : ℕ) (xs : History) → AreStarts m xs → AreOutputs m xs
outputs-starts m [] a = tt
outputs-starts m (x ∷ xs) a = ((start-no_input x.event a.0.0, a.0.1), outputs-starts m xs a.1)

pub outputs-replies : (m : ℕ) (xs : History) → AreReplies m xs → AreOutputs m xs
outputs-replies m [] a = tt
outputs-replies m (x ∷ xs) a = ((reply-no_input x.event a.0.0, a.0.1), outputs-replies m xs a.1)

-- outputs change neither the last input nor that each input was served
pub last_input-outputs : (m : ℕ) (xs h : History) → AreOutputs m xs → last_input (xs ++ h) ≡ last_input h
last_input-outputs m [] h a = refl
last_input-outputs m (x ∷ xs) h a = rw a.0.0 (last_input-outputs m xs h a.1)

at_once-outputs : (m : ℕ) (xs h : History) → AreOutputs m xs → is_at_once m h ≡ true → is_at_once m (xs ++ h) ≡ true
at_once-outputs m [] h a o = o
at_once-outputs m (x ∷ xs) h a o =
    let same : (x.moment == m) ≡ true = eq-eqb x.moment m a.0.1 in rw (a.0.0, same) (at_once-outputs m xs h a.1 o)

inputs-outputs : (m : ℕ) (xs h : History) → AreOutputs m xs → DrivenInputs h → DrivenInputs (xs ++ h)
inputs-outputs m [] h a d = d
inputs-outputs m (x ∷ xs) h a d = (rests_before-output x (xs ++ h) a.0.0, inputs-outputs m xs h a.1 d)

Lawful-drop : (xs ys : History) → Lawful (xs ++ ys) → Lawful ys
Lawful-drop [] ys l = l
Lawful-drop (x ∷ xs) ys l = Lawful-drop xs ys l.1

-- before the first input nothing is answered
replies-none : (m : ℕ) (rs : History) → Lawful rs → AreReplies m rs → rs ≡ []
replies-none m [] l a = refl
replies-none m (r ∷ rs) l a =
    absurd (go rs (replies-none m rs l.1 a.1) r.event (in_order-of r.moment r.event rs l.0.ordered) a.0.0)
  where
    go : (before : History) → before ≡ [] → (event : Event) → IsTrue (in_order event before) → is_reply event ≡ true → ⊥
    go [] e (Event.Reply reply) i q = cc
    go [] e (Event.Device device) i q = cc
    go [] e (Event.Gone reg) i q = cc
    go [] e (Event.Level set) i q = cc
    go [] e (Event.LevelGone cleared) i q = cc
    go [] e (Event.Agent described) i q = cc
    go [] e (Event.Ask ask) i q = cc
    go [] e (Event.Exit ended) i q = cc
    go [] e Event.Pass i q = cc
    go [] e (Event.Confirm confirmation) i q = cc
    go [] e (Event.Refused refusal) i q = cc
    go [] e (Event.Start start) i q = cc
    go (d ∷ before) e event i q = cc

empty-append : (xs ys : History) → ys ≡ [] → xs ++ ys ≡ xs
empty-append [] ys e = e
empty-append (x ∷ xs) ys e = ap (λ zs. x ∷ zs) (empty-append xs ys e)

-- an input finds the one before it served
served-before : (old : Cored) (m : ℕ) (rs : History) → Rests old → old.last ≤ m → (old.last ≡ m → rs ≡ []) →
    AreReplies m rs → Lawful (rs ++ old.history) → rests (Some m) (rs ++ old.history) ≡ true
served-before old m rs r later still a l = go r.rest
  where
    rest : AtRest old.last old.history → (old.last ≡ m) ⊎ (old.last < m) → rests (Some m) (rs ++ old.history) ≡ true
    rest t (inl e) =
        ap (λ xs. rests (Some m) (xs ++ old.history)) (still e) ∙ rests-same old.last (Some m) old.history t
    rest t (inr k) = rests-next old.last m rs old.history k a t

    either : (a b : ℕ) → a ≤ b → (a ≡ b) ⊎ (a < b)
    either a b k = pick (a == b) refl
      where
        pick : (c : Bool) → (a == b) ≡ c → (a ≡ b) ⊎ (a < b)
        pick true e = inl (eqb-true a b e)
        pick false e = let other : a ≡ b → ⊥ = false-eqb a b (sym e) in inr (omega (arith, k, other))

    go : (old.history ≡ []) ⊎ AtRest old.last old.history → rests (Some m) (rs ++ old.history) ≡ true
    go (inl e) =
        let none : rs ≡ [] = replies-none m rs (subst Lawful (empty-append rs old.history e) l) a in
        ap (rests (Some m)) (empty-append rs old.history e ∙ none)
    go (inr t) = rest t (either old.last m later)

-- a line that was entered and whose starts were made is served
pub rests-served : (line : Happening) (old mid new : Cored) → Rests old → TakesLine line old mid → StartsAll mid new →
    Sound new → Rests new
rests-served line old mid new r t s k = record {
  inputs = subst DrivenInputs (sym whole) driven;
  rest = inr (record { last = last_is; at_once = once; settled_now = k.settled_now; idle = s.idle });
}
  where
    is-line : is_input t.entry.event ≡ true
    is-line =
        given-of_line Mode.Timed nothing line (t.enters.advances.advance ++ old.history) old.last old.limit _ t.entry t.is

    lead : History
    lead = t.enters.advances.advance ++ old.history

    input : Entry
    input = record { moment = t.entry.moment; event = t.entry.event }

    outputs : AreOutputs t.entry.moment t.enters.follows.replies
    outputs = outputs-replies t.entry.moment t.enters.follows.replies (entered-answered t.enters)

    starts : AreOutputs t.entry.moment s.some.starts
    starts =
        outputs-starts t.entry.moment s.some.starts
        (subst (λ n. AreStarts n s.some.starts) (entered-last t.enters) s.some.started)

    whole : new.history ≡ s.some.starts ++ (t.enters.follows.replies ++ input ∷ lead)
    whole = s.some.history ∙ ap (λ (h : History). s.some.starts ++ h) (entered-history t.enters)

    now : new.last ≡ t.entry.moment
    now = s.some.last ∙ entered-last t.enters

    lawful : Lawful lead
    lawful =
        (Lawful-drop t.enters.follows.replies (input ∷ lead)
        (Lawful-drop s.some.starts (t.enters.follows.replies ++ input ∷ lead) (subst Lawful whole k.lawful))).1

    served : IsTrue (rests_before input lead)
    served =
        let is : is_input input.event ≡ true = is-line in
        rw is (served-before old t.entry.moment t.enters.advances.advance r t.later t.enters.advances.still
        t.enters.advances.at_once lawful)

    driven : DrivenInputs (s.some.starts ++ (t.enters.follows.replies ++ input ∷ lead))
    driven =
        inputs-outputs t.entry.moment s.some.starts (t.enters.follows.replies ++ input ∷ lead) starts
        (inputs-outputs t.entry.moment t.enters.follows.replies (input ∷ lead) outputs (
          served,
          inputs-outputs t.entry.moment t.enters.advances.advance old.history
              (outputs-replies t.entry.moment t.enters.advances.advance t.enters.advances.at_once) r.inputs,
        ))

    last_here : last_input (input ∷ lead) ≡ Some t.entry.moment
    last_here = let is : is_input input.event ≡ true = is-line in rw is refl

    last_is : last_input new.history ≡ Some new.last
    last_is =
        ap last_input whole
        ∙ last_input-outputs t.entry.moment s.some.starts (t.enters.follows.replies ++ input ∷ lead) starts
        ∙ last_input-outputs t.entry.moment t.enters.follows.replies (input ∷ lead) outputs
        ∙ last_here
        ∙ ap Some (sym now)

    once_here : is_at_once t.entry.moment (input ∷ lead) ≡ true
    once_here = let is : is_input input.event ≡ true = is-line in rw is refl

    once : is_at_once new.last new.history ≡ true
    once =
        ap (λ n. is_at_once n new.history) now
        ∙ ap (is_at_once t.entry.moment) whole
        ∙ at_once-outputs t.entry.moment s.some.starts (t.enters.follows.replies ++ input ∷ lead) starts
        (at_once-outputs t.entry.moment t.enters.follows.replies (input ∷ lead) outputs once_here)

-- at rest the journal is Driven
pub driven-rests : (v : Cored) → Rests v → Driven v.history
driven-rests v r = (go r.rest, r.inputs)
  where
    go : (v.history ≡ []) ⊎ AtRest v.last v.history → rests None v.history ≡ true
    go (inl e) = ap (rests None) e
    go (inr t) = rests-same v.last None v.history t

-- and after one more advance
pub driven-passed : (line : Happening) (full : Full) (old new : Cored) → Rests old → LacksRoom line old new full →
    Sound new → Driven new.history
driven-passed line full old new r p k = (
  subst (λ h. rests None h ≡ true) (sym p.advances.history) (go r.rest),
  subst DrivenInputs (sym p.advances.history) driven,
)
  where
    driven : DrivenInputs (p.advances.advance ++ old.history)
    driven =
        inputs-outputs p.entry.moment p.advances.advance old.history
        (outputs-replies p.entry.moment p.advances.advance p.advances.at_once) r.inputs

    rest : AtRest old.last old.history → (b : Bool) → (old.last == p.entry.moment) ≡ b →
        rests None (p.advances.advance ++ old.history) ≡ true
    rest t true e =
        ap (λ (xs : History). rests None (xs ++ old.history)) (p.advances.still (eqb-true old.last p.entry.moment e))
        ∙ rests-same old.last None old.history t
    rest t false e =
        let other : old.last ≡ p.entry.moment → ⊥ = false-eqb old.last p.entry.moment (sym e) in
        rests-end old.last p.entry.moment p.advances.advance old.history
        (omega (arith, p.later, other)) p.advances.at_once t

    go : (old.history ≡ []) ⊎ AtRest old.last old.history → rests None (p.advances.advance ++ old.history) ≡ true
    go (inl e) =
        let none : p.advances.advance ≡ [] =
        replies-none p.entry.moment p.advances.advance
        (subst Lawful (empty-append p.advances.advance old.history e)
        (subst Lawful p.advances.history k.lawful)) p.advances.at_once in
        ap (rests None) (empty-append p.advances.advance old.history e ∙ none)
    go (inr t) = rest t (old.last == p.entry.moment) refl

-- the entry of a start
abbrev start_of : Cored → Started → Entry
start_of v s = record {
  moment = v.last;
  event = Event.Start (record {
    run = s.run;
    req = s.req;
    slot = s.slot;
    reg = s.reg;
    kind = s.kind;
    attempt = s.attempt;
  });
}

-- no start yet, and one more
pub starts-none : (v : Cored) → StartsSome v v
starts-none v = record { starts = []; started = tt; history = refl; last = refl; limit = refl }

pub starts-more : (old mid new : Cored) (s : Started) → StartsSome old mid → Starts mid new s → StartsSome old new
starts-more old mid new s a b = record {
  starts = start_of mid s ∷ a.starts;
  started = ((refl, a.last), a.started);
  history = b.history ∙ ap (λ h. start_of mid s ∷ h) a.history;
  last = b.last ∙ a.last;
  limit = b.limit ∙ a.limit;
}

-- what a turn that served a line, or found no room for it, leaves
pub turns-served : (r : Option Outcome) (line : Happening) (old new : Cored) → ServesLine line old new → Sound new →
    Turns r old new
turns-served None line old new s k = λ r. rests-served line old s.mid new r s.takes s.starts k
turns-served (Some outcome) line old new s k =
    λ r. driven-rests new (rests-served line old s.mid new r s.takes s.starts k)

-- a journal that is handed back
pub served-driven : (v : Cored) → Sound v → Driven v.history → IsServed v.history
served-driven v k d = record { lawful = k.lawful; calm = k.calm; settled_then = k.settled_then; driven = d }

-- a turn that found no line leaves the session as it was
pub turns-still : (r : Option Outcome) (old new : Cored) → new ≡ old → Turns r old new
turns-still None old new e = λ rests. subst Rests (sym e) rests
turns-still (Some outcome) old new e = λ rests. subst (λ (v : Cored). Driven v.history) (sym e) (driven-rests old rests)

full-cored : (v : Cored) (j : Journaled) (full : Full) → j.history ≡ v.history → j.limit ≡ v.limit →
    IsFull v full.need full → IsFull (cored j) full.need full
full-cored v j full e l f =
    let moved : (h : History) (limit : ℕ) → h ≡ v.history → limit ≡ v.limit → IsFull v full.need full →
    IsFull (record { history = h; last = last_moment h; limit = limit }) full.need full =
    λ h limit e l f. record {
      says =
          f.says ∙ ap₂ (λ (x : History) (n : ℕ).
          record { entries = length x; owed = owed x; need = full.need; limit = n }) (sym e) (sym l);
      above =
          subst (λ (x : History). limit < length x + owed x + full.need) (sym e)
          (subst (λ n. n < length v.history + owed v.history + full.need) (sym l) f.above);
    } in
    moved j.history j.limit e l f

-- what ended a turn ended the session
pub cause-of : (o : Outcome) (source : Change SourceTold) (sink : Change SinkTold) (from : SourceTold)
    (start : SinkTold) (polls : PollCounts) (v : Cored) → from.faults ≤ source.before.faults →
    start.faults ≤ sink.before.faults → EndsBy o source sink v →
    EndsSession o (change from source.after) (change start sink.after) polls v
cause-of Outcome.Finished source sink from start polls v r w e = e
cause-of Outcome.ReadFault source sink from start polls v r w e =
    then-rose from.faults source.before.faults source.after.faults r e
cause-of Outcome.WriteFault source sink from start polls v r w e =
    then-rose start.faults sink.before.faults sink.after.faults w e
cause-of (Outcome.JournalFull full) source sink from start polls v r w e = e
cause-of Outcome.Budget source sink from start polls v r w e = absurd e
cause-of Outcome.Usage source sink from start polls v r w e = e
cause-of Outcome.NoMemory source sink from start polls v r w e = e
cause-of (Outcome.Unlawful index rule) source sink from start polls v r w e = e
cause-of (Outcome.BadEntry line) source sink from start polls v r w e = e

-- it is told of the journal that is handed back
pub cause-cored : (o : Outcome) (source : Change SourceTold) (sink : Change SinkTold) (polls : PollCounts) (v : Cored)
    (j : Journaled) → j.history ≡ v.history → j.limit ≡ v.limit → EndsSession o source sink polls v →
    HasCause o source sink polls j
cause-cored (Outcome.JournalFull full) source sink polls v j h l e = full-cored v j full h l e
cause-cored Outcome.Finished source sink polls v j h l e = e
cause-cored Outcome.ReadFault source sink polls v j h l e = e
cause-cored Outcome.WriteFault source sink polls v j h l e = e
cause-cored Outcome.Budget source sink polls v j h l e = e
cause-cored Outcome.Usage source sink polls v j h l e = e
cause-cored Outcome.NoMemory source sink polls v j h l e = e
cause-cored (Outcome.Unlawful index rule) source sink polls v j h l e = e
cause-cored (Outcome.BadEntry line) source sink polls v j h l e = e

-- where no fault was the cause, the session ended of itself
pub complete-of : (o : Outcome) (source : Change SourceTold) (sink : Change SinkTold) (polls : PollCounts)
    (j : Journaled) → HasCause o source sink polls j → IsComplete o source sink polls j
complete-of Outcome.Finished source sink polls j e = λ reads writes. e
complete-of Outcome.ReadFault source sink polls j e = λ reads writes. absurd (reads e)
complete-of Outcome.WriteFault source sink polls j e = λ reads writes. absurd (writes e)
complete-of Outcome.Budget source sink polls j e = λ reads writes. e
complete-of (Outcome.JournalFull full) source sink polls j e = λ reads writes. e
complete-of Outcome.Usage source sink polls j e = absurd e
complete-of Outcome.NoMemory source sink polls j e = absurd e
complete-of (Outcome.Unlawful index rule) source sink polls j e = absurd e
complete-of (Outcome.BadEntry line) source sink polls j e = absurd e

-- and ends it still where the last flush worked, or failed after another cause
cause-later : (o : Outcome) (source : Change SourceTold) (start before after : SinkTold) (polls : PollCounts)
    (j : Journaled) → before.faults ≤ after.faults → HasCause o source (change start before) polls j →
    HasCause o source (change start after) polls j
cause-later Outcome.WriteFault source start before after polls j w e =
    rose-then start.faults before.faults after.faults e w
cause-later Outcome.Finished source start before after polls j w e = e
cause-later Outcome.ReadFault source start before after polls j w e = e
cause-later Outcome.Budget source start before after polls j w e = e
cause-later (Outcome.JournalFull full) source start before after polls j w e = e
cause-later Outcome.Usage source start before after polls j w e = e
cause-later Outcome.NoMemory source start before after polls j w e = e
cause-later (Outcome.Unlawful index rule) source start before after polls j w e = e
cause-later (Outcome.BadEntry line) source start before after polls j w e = e

cause-failed : (o : Outcome) (source : Change SourceTold) (start before after : SinkTold) (polls : PollCounts)
    (j : Journaled) → start.faults ≤ before.faults → before.faults ≤ after.faults →
    SinkFaulted (change before after) → HasCause o source (change start before) polls j →
    HasCause (after_failed_flush o) source (change start after) polls j
cause-failed Outcome.Finished source start before after polls j w k r e =
    then-rose start.faults before.faults after.faults w r
cause-failed Outcome.Budget source start before after polls j w k r e =
    then-rose start.faults before.faults after.faults w r
cause-failed Outcome.WriteFault source start before after polls j w k r e =
    rose-then start.faults before.faults after.faults e k
cause-failed Outcome.ReadFault source start before after polls j w k r e = e
cause-failed (Outcome.JournalFull full) source start before after polls j w k r e = e
cause-failed Outcome.Usage source start before after polls j w k r e = e
cause-failed Outcome.NoMemory source start before after polls j w k r e = e
cause-failed (Outcome.Unlawful index rule) source start before after polls j w k r e = e
cause-failed (Outcome.BadEntry line) source start before after polls j w k r e = e

-- why a session ended, after its last flush
pub cause-closed : (o closed : Outcome) (source : Change SourceTold) (start before after : SinkTold)
    (polls : PollCounts) (j : Journaled) → start.faults ≤ before.faults → before.faults ≤ after.faults →
    Closes o closed (change before after) → HasCause o source (change start before) polls j →
    HasCause closed source (change start after) polls j
cause-closed o closed source start before after polls j w w' k e = elim k [
  | inl same ↦ subst (λ x. HasCause x source (change start after) polls j) (sym same)
      (cause-later o source start before after polls j w' e)
  | inr failed ↦ subst (λ x. HasCause x source (change start after) polls j) (sym failed.0)
      (cause-failed o source start before after polls j w w' failed.1 e)
]
