-- A line that was made and served is the newest input, and the workload stands behind it; one that finds no room cuts it.
use Rattle.std.proofs.Common.{ℕ, [], ◌∷◌, ◌++◌, true, ◌≡◌, ◌<◌, cond, refl, sym, ap, ap₂, ◌∙◌, subst, Some, arith, length, length-append}
use Rattle.fnc_journal.specs.declared.outcome.Full.{Full}
use Rattle.fnc_journal.specs.History.{History}
use Rattle.fnc_journal.specs.Found.{is_input}
use Rattle.fnc_journal.specs.Served.{AreReplies}
use Rattle.fnc_outside.specs.Events.{Happening}
use Rattle.fnc_command.specs.declared.command.Mode.{Mode}
use Rattle.fnc_core.proofs.Following.{entered-answered, entered-history, entered-limit}
use Rattle.fnc_core.specs.Cored.{Cored}
use Rattle.fnc_desk.proofs.Counting.{given-of_line}
use Rattle.fnc_desk.specs.Lines.{AreLines, FindsNoRoom, NewestFindsNoRoom, last_come}
use Rattle.fnc_replay.proofs.Hearing.{lacks-room, lines-served}
use Rattle.fnc_replay.proofs.Resting.{AreOutputs, outputs-replies, outputs-starts}
use Rattle.fnc_replay.specs.Rests.{ServesLine}
use Rattle.fnc_replay.specs.Timed.{LacksRoom, nothing, timed}
use Rattle.fnc_workload.proofs.Least.{least-replies}
use Rattle.fnc_workload.specs.Lines.{AreMade, Course, IsCut, given_line, made_lines, next_line, standing, then_stands, and_then}
use Rattle.fnc_workload.specs.Steps.{next}
use Rattle.fnc_workload.specs.declared.making.Next.{Next}

-- what is no input leaves the workload as it stands
standing-outputs : (c : Course) (m : ℕ) (os h : History) → AreOutputs m os → standing c (os ++ h) ≡ standing c h
standing-outputs c m [] h a = refl
standing-outputs c m (o ∷ os) h a = rw a.0.0 (standing-outputs c m os h a.1)

made-outputs : (c : Course) (m : ℕ) (os h : History) → AreOutputs m os → made_lines c (os ++ h) ≡ made_lines c h
made-outputs c m [] h a = refl
made-outputs c m (o ∷ os) h a = rw a.0.0 (made-outputs c m os h a.1)

-- replies leave the next line as it is
next-replies : (c : Course) (m : ℕ) (rs h : History) → AreReplies m rs → next_line c (rs ++ h) ≡ next_line c h
next-replies c m rs h a =
    ap₂ (λ s alive. next s c.count alive) (standing-outputs c m rs h (outputs-replies m rs a)) (least-replies m rs h a)

-- the journal after a line that was served
whole-of : (line : Happening) (old new : Cored) (s : ServesLine line old new) →
    new.history
    ≡ s.starts.some.starts
    ++ (s.takes.enters.follows.replies ++ s.takes.entry ∷ (s.takes.enters.advances.advance ++ old.history))
whole-of line old new s =
    s.starts.some.history ∙ ap (λ (h : History). s.starts.some.starts ++ h) (entered-history s.takes.enters)

input-of : (line : Happening) (old new : Cored) (s : ServesLine line old new) → is_input s.takes.entry.event ≡ true
input-of line old new s =
    given-of_line Mode.Timed nothing line (s.takes.enters.advances.advance ++ old.history) old.last old.limit _
    s.takes.entry s.takes.is

pub standing-served : (c : Course) (n : Next) (line : Happening) (old new : Cored) → ServesLine line old new →
    next_line c old.history ≡ Some n → standing c new.history ≡ n.making
standing-served c n line old new s q =
    ap (standing c) (whole-of line old new s)
    ∙ standing-outputs c s.mid.last s.starts.some.starts _
    (outputs-starts s.mid.last s.starts.some.starts s.starts.some.started)
    ∙ standing-outputs c s.takes.entry.moment s.takes.enters.follows.replies _
    (outputs-replies s.takes.entry.moment s.takes.enters.follows.replies (entered-answered s.takes.enters))
    ∙ here
  where
    met : History
    met = s.takes.enters.advances.advance ++ old.history

    is_next : next_line c met ≡ Some n
    is_next =
        next-replies c s.takes.entry.moment s.takes.enters.advances.advance old.history
        s.takes.enters.advances.at_once ∙ q

    here : standing c (s.takes.entry ∷ met) ≡ n.making
    here =
        ap (λ b. cond b (then_stands (standing c met) (next_line c met)) (standing c met)) (input-of line old new s)
        ∙ ap (then_stands (standing c met)) is_next

pub made-served : (c : Course) (n : Next) (line : Happening) (old new : Cored) → ServesLine line old new →
    next_line c old.history ≡ Some n → made_lines c new.history ≡ given_line n ∷ made_lines c old.history
made-served c n line old new s q =
    ap (made_lines c) (whole-of line old new s)
    ∙ made-outputs c s.mid.last s.starts.some.starts _
    (outputs-starts s.mid.last s.starts.some.starts s.starts.some.started)
    ∙ made-outputs c s.takes.entry.moment s.takes.enters.follows.replies _
    (outputs-replies s.takes.entry.moment s.takes.enters.follows.replies (entered-answered s.takes.enters))
    ∙ here
  where
    met : History
    met = s.takes.enters.advances.advance ++ old.history

    is_next : next_line c met ≡ Some n
    is_next =
        next-replies c s.takes.entry.moment s.takes.enters.advances.advance old.history
        s.takes.enters.advances.at_once ∙ q

    here : made_lines c (s.takes.entry ∷ met) ≡ given_line n ∷ made_lines c old.history
    here =
        ap (λ b. cond b (and_then (next_line c met) (made_lines c met)) (made_lines c met)) (input-of line old new s)
        ∙ ap₂ and_then is_next
        (made-outputs c s.takes.entry.moment s.takes.enters.advances.advance old.history
        (outputs-replies s.takes.entry.moment s.takes.enters.advances.advance s.takes.enters.advances.at_once))

-- the inputs are those of the lines that were made
pub are-made : (c : Course) (n : Next) (old new : Cored) → AreMade c old → last_come old.history ≡ old.last →
    ServesLine (given_line n) old new → next_line c old.history ≡ Some n → AreMade c new
are-made c n old new a l s q =
    subst (AreLines (timed new.limit) new.history) (sym (made-served c n (given_line n) old new s q))
    (lines-served (given_line n) (made_lines c old.history) old new a l s)

-- a line that finds no room cuts the workload
pub is-cut : (c : Course) (n : Next) (full : Full) (old new : Cored) → AreMade c old → last_come old.history ≡ old.last →
    LacksRoom (given_line n) old new full → next_line c old.history ≡ Some n → IsCut c new full
is-cut c n full old new a l k q = record {
  made = subst (AreLines (timed new.limit) new.history) (sym lines) cut.0;
  last = n;
  next_is =
      ap (next_line c) k.advances.history
      ∙ next-replies c k.entry.moment k.advances.advance old.history k.advances.at_once ∙ q;
  no_room = subst (λ ls. FindsNoRoom (timed new.limit) (given_line n) ls new full) (sym lines) cut.1;
}
  where
    cut : NewestFindsNoRoom (timed new.limit) (given_line n ∷ made_lines c old.history) new full
    cut = lacks-room (given_line n) (made_lines c old.history) full old new a l k

    lines : made_lines c new.history ≡ made_lines c old.history
    lines =
        ap (made_lines c) k.advances.history
        ∙ made-outputs c k.entry.moment k.advances.advance old.history
        (outputs-replies k.entry.moment k.advances.advance k.advances.at_once)

-- a journal is longer after a line that was served
pub longer : (line : Happening) (old new : Cored) → ServesLine line old new → length old.history < length new.history
longer line old new s =
    let met : History = s.takes.enters.advances.advance ++ old.history in
    let a = ap length (whole-of line old new s) in
    let b = length-append s.starts.some.starts (s.takes.enters.follows.replies ++ s.takes.entry ∷ met) in
    let d = length-append s.takes.enters.follows.replies (s.takes.entry ∷ met) in
    let f = length-append s.takes.enters.advances.advance old.history in
    omega (arith, a, b, d, f)

pub limit-served : (line : Happening) (old new : Cored) → ServesLine line old new → new.limit ≡ old.limit
limit-served line old new s = s.starts.some.limit ∙ entered-limit s.takes.enters
