-- A text that is written piece by piece: how much of it the sink gained so far, and at a write that fails.
use Rattle.std.proofs.Common.{
  ◌≡◌,
  ◌<◌,
  ◌+◌,
  ℕ,
  List,
  [],
  ◌++◌,
  length,
  drop,
  get_or,
  Option,
  Some,
  None,
  refl,
  sym,
  ap,
  ◌∙◌,
  subst,
  arith,
  append_assoc,
  append-nil,
  length-append,
}
use Rattle.std.specs.Prelude.{Result, Ok, Err, OnOk, OnErr}
use Rattle.std.proofs.lemmas.List.{drop_more, take-append-le}
use Rattle.fnc_outside.specs.Told.{Gains}
use Rattle.fnc_outside.specs.Writes.{AppendsPart}
use Rattle.fnc_outside.proofs.Telling.{gains-gains, gains-part}
use Rattle.fnc_printing.specs.declared.piece.Piece.{Piece}
use Rattle.fnc_printing.specs.Printed.{Progress, piece_text, pieces_text}

-- nothing was added
pub gains-none : {A : Type 0} (held : Option (List A)) → Gains held held []
gains-none None = tt
gains-none (Some xs) = sym (append-nil xs)

-- a part of a front is a part of the whole
pub part-of_front : (before after : Option (List ℕ)) (front rest : List ℕ) → AppendsPart before after front →
    AppendsPart before after (front ++ rest)
part-of_front before after front rest p =
    record {
      count = p.count;
      within = omega (arith, p.within, length-append front rest);
      gained = subst (Gains before after) (sym (take-append-le p.count front rest p.within)) p.gained;
    }

-- what was done with one piece more is a front of the whole
splits-more : (done whole rest piece more : List ℕ) → done ++ rest ≡ whole → rest ≡ piece ++ more →
    (done ++ piece) ++ more ≡ whole
splits-more done whole rest piece more splits e =
    append_assoc done piece more ∙ ap (λ xs. done ++ xs) (sym e) ∙ splits

-- at the start all is still to come
pub progress-start : (held : Option (List ℕ)) (whole : List ℕ) → Progress held held whole whole
progress-start held whole = record { done = []; splits = refl; gained = gains-none held }

-- a piece was written
pub progress-more : (before now after : Option (List ℕ)) (whole rest piece more : List ℕ) →
    Progress before now whole rest → rest ≡ piece ++ more → Gains now after piece → Progress before after whole more
progress-more before now after whole rest piece more p e g =
    record {
      done = p.done ++ piece;
      splits = splits-more p.done whole rest piece more p.splits e;
      gained = gains-gains before now after p.done piece p.gained g;
    }

-- the write of a piece failed
pub progress-failed : (before now after : Option (List ℕ)) (whole rest piece more : List ℕ) →
    Progress before now whole rest → rest ≡ piece ++ more → AppendsPart now after piece → AppendsPart before after whole
progress-failed before now after whole rest piece more p e a =
    subst (AppendsPart before after) (splits-more p.done whole rest piece more p.splits e)
    (part-of_front before after (p.done ++ piece) more (gains-part before now after p.done piece p.gained a))

-- nothing is still to come
pub progress-end : (before now : Option (List ℕ)) (whole rest : List ℕ) → Progress before now whole rest → rest ≡ [] →
    Gains before now whole
progress-end before now whole rest p e =
    subst (Gains before now) (sym (append-nil p.done) ∙ ap (λ xs. p.done ++ xs) (sym e) ∙ p.splits) p.gained

-- what a failed call did
pub on-err : {A E : Type 0} (r : Result A E) (P : Type 0) → P → OnErr r P
on-err (Ok x) P p = tt
on-err (Err e) P p = p

-- what a call did, and what follows from it
pub on-ok-then : {A E : Type 0} (r : Result A E) (P Q : Type 0) → (P → Q) → OnOk r P → OnOk r Q
on-ok-then (Ok x) P Q f p = f p
on-ok-then (Err e) P Q f p = tt

pub on-err-then : {A E : Type 0} (r : Result A E) (P Q : Type 0) → (P → Q) → OnErr r P → OnErr r Q
on-err-then (Ok x) P Q f p = tt
on-err-then (Err e) P Q f p = f p

-- what is printed of the pieces from one on begins with that one
pub pieces-next : (ps : List Piece) (i : ℕ) (p : Piece) → i < length ps →
    pieces_text (drop i ps) ≡ piece_text (get_or ps i p) ++ pieces_text (drop (i + 1) ps)
pieces-next ps i p l = ap pieces_text (drop_more ps i p l)
