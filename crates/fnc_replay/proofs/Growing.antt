-- How the journal grows in a turn: what was written of it before stays.
use Rattle.std.proofs.Common.{[], ◌∷◌, ◌++◌, ◌≡◌, ◌≤◌, ap, sym, ◌∙◌, arith, length, length-append, le-ltb, append_assoc}
use Rattle.fnc_journal.specs.declared.entry.Entry.{Entry}
use Rattle.fnc_journal.specs.History.{History}
use Rattle.fnc_journal.specs.Prefix.{prefix}
use Rattle.fnc_journal.proofs.Prefixes.{prefix-all}
use Rattle.fnc_core.proofs.Following.{entered-history, entered-limit}
use Rattle.fnc_core.specs.Cored.{Cored}
use Rattle.fnc_outside.specs.Events.{Happening}
use Rattle.fnc_journal.specs.declared.outcome.Full.{Full}
use Rattle.fnc_replay.specs.Rests.{ServesLine}
use Rattle.fnc_replay.specs.Timed.{LacksRoom}

-- a journal with more entries
pub record Grows (old new : Cored) : Type 0 where
  pub more : History
  pub history : new.history ≡ more ++ old.history
  pub limit : new.limit ≡ old.limit

pub grows-served : (line : Happening) (old new : Cored) → ServesLine line old new → Grows old new
grows-served line old new s =
    let e = s.takes.enters in
    let input : Entry = record { moment = s.takes.entry.moment; event = s.takes.entry.event } in
    record {
      more = s.starts.some.starts ++ (e.follows.replies ++ (input ∷ e.advances.advance));
      history =
          s.starts.some.history ∙ ap (λ (h : History). s.starts.some.starts ++ h)
          (entered-history e ∙ sym (append_assoc e.follows.replies (input ∷ e.advances.advance) old.history))
          ∙ sym (append_assoc s.starts.some.starts (e.follows.replies ++ (input ∷ e.advances.advance)) old.history);
      limit = s.starts.some.limit ∙ entered-limit e;
    }

pub grows-passed : (line : Happening) (full : Full) (old new : Cored) → LacksRoom line old new full → Grows old new
grows-passed line full old new p =
    record { more = p.advances.advance; history = p.advances.history; limit = p.advances.limit }

prefix-append : (xs h : History) → prefix (length h) (xs ++ h) ≡ h
prefix-append [] h = prefix-all h (length h) (omega arith)
prefix-append (x ∷ xs) h =
    rw (le-ltb (length (xs ++ h)) (length h) (let l = length-append xs h in omega (arith, l))) (prefix-append xs h)

-- what lay before is a prefix of it
pub prefix-grown : (old new : Cored) → Grows old new → prefix (length old.history) new.history ≡ old.history
prefix-grown old new g = ap (prefix (length old.history)) g.history ∙ prefix-append g.more old.history

pub length-grown : (old new : Cored) → Grows old new → length old.history ≤ length new.history
length-grown old new g = let l = ap length g.history ∙ length-append g.more old.history in omega (arith, l)
