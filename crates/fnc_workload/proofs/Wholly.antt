-- A workload at its beginning, and at its end as the journal that is handed back tells it.
use Rattle.std.proofs.Common.{ℕ, [], ◌≡◌, ◌≤◌, ◌<◌, ◌+◌, refl, sym, ap, ap₂, ◌∙◌, subst, arith, inl, length}
use Rattle.fnc_journal.specs.declared.outcome.Full.{Full}
use Rattle.fnc_journal.specs.declared.outcome.Outcome.{Outcome}
use Rattle.fnc_journal.specs.Driven.{DrivenInputs}
use Rattle.fnc_journal.specs.Found.{has_exit}
use Rattle.fnc_journal.specs.History.{History, Journaled}
use Rattle.fnc_journal.specs.Owed.{owed}
use Rattle.fnc_core.specs.Cored.{Cored, IsFull}
use Rattle.fnc_desk.specs.Lines.{AreLines, GivesNext, last_come}
use Rattle.fnc_replay.specs.Session.{cored}
use Rattle.fnc_replay.specs.Timed.{timed}
use Rattle.fnc_workload.specs.Lines.{AreMade, Course, IsCut, begun, given_line, made_lines, next_line, standing}
use Rattle.fnc_workload.specs.Turns.{Stands, course_of}
use Rattle.fnc_workload.specs.Worked.{EndsAt}
use Rattle.fnc_workload.specs.declared.making.Making.{Making}
use Rattle.fnc_workload.specs.declared.turn.Worker.{Worker}

-- nothing was made yet
pub stands-first : (w : Worker) (v : Cored) → v.history ≡ [] → v.last ≡ 0 → w.making ≡ begun (course_of w) →
    w.past ≡ 0 → w.count ≤ 100000 → Stands w v
stands-first w v none first begins past few = record {
  rests = record { inputs = subst DrivenInputs (sym none) tt; rest = inl none };
  made = subst (λ (h : History). AreLines (timed v.limit) h (made_lines (course_of w) h)) (sym none) refl;
  last = ap last_come none ∙ sym first;
  making = begins ∙ sym (ap (standing (course_of w)) none);
  ended = λ run k. absurd (omega (arith, k, past));
  past = inl (ap (has_exit w.past) none);
  early = let at : w.making.moment ≡ 0 = ap (λ (s : Making). s.moment) begins in omega (arith, at);
  within = let short : length v.history ≡ 0 = ap length none in omega (arith, short);
  few = few;
}

made-cored : (c : Course) (v : Cored) (j : Journaled) → j.history ≡ v.history → j.limit ≡ v.limit → AreMade c v →
    AreMade c (cored j)
made-cored c v j e l a =
    subst (λ n. AreLines (timed n) j.history (made_lines c j.history)) (sym l)
    (subst (λ (h : History). AreLines (timed v.limit) h (made_lines c h)) (sym e) a)

full-cored : (v : Cored) (j : Journaled) (full : Full) → j.history ≡ v.history → j.limit ≡ v.limit → IsFull v 1 full →
    IsFull (cored j) 1 full
full-cored v j full e l f = record {
  says =
      f.says ∙ ap₂ (λ (x : History) (n : ℕ). record { entries = length x; owed = owed x; need = 1; limit = n }) (sym e)
      (sym l);
  above =
      subst (λ (x : History). j.limit < length x + owed x + 1) (sym e)
      (subst (λ n. n < length v.history + owed v.history + 1) (sym l) f.above);
}

cut-cored : (c : Course) (v : Cored) (j : Journaled) (full : Full) → j.history ≡ v.history → j.limit ≡ v.limit →
    IsCut c v full → IsCut c (cored j) full
cut-cored c v j full e l k = record {
  made = made-cored c v j e l k.made;
  last = k.last;
  next_is = ap (next_line c) e ∙ k.next_is;
  no_room = record {
    entry = k.no_room.entry;
    gives =
        subst (λ n. GivesNext (timed n) (length (made_lines c j.history)) (given_line k.last) j.history k.no_room.entry)
        (sym l)
        (subst
        (λ (h : History). GivesNext (timed v.limit) (length (made_lines c h)) (given_line k.last) h k.no_room.entry)
        (sym e) k.no_room.gives);
    no_exit = k.no_room.no_exit;
    is_full = full-cored v j full e l k.no_room.is_full;
  };
}

-- how a workload ends is told of the journal that is handed back
pub ends-cored : (o : Outcome) (c : Course) (v : Cored) (j : Journaled) → j.history ≡ v.history → j.limit ≡ v.limit →
    EndsAt o c v → EndsAt o c (cored j)
ends-cored Outcome.Finished c v j e l k = (made-cored c v j e l k.0, ap (next_line c) e ∙ k.1)
ends-cored Outcome.WriteFault c v j e l k = (made-cored c v j e l k.0, ap (next_line c) e ∙ k.1)
ends-cored (Outcome.JournalFull full) c v j e l k = cut-cored c v j full e l k
ends-cored Outcome.Usage c v j e l k = absurd k
ends-cored Outcome.ReadFault c v j e l k = absurd k
ends-cored Outcome.Budget c v j e l k = absurd k
ends-cored Outcome.NoMemory c v j e l k = absurd k
ends-cored (Outcome.Unlawful index rule) c v j e l k = absurd k
ends-cored (Outcome.BadEntry line) c v j e l k = absurd k
