-- The text of a journal grows by the lines of its entries.
use Rattle.std.proofs.Common.{ℕ, List, [], ◌∷◌, ◌++◌, ◌≡◌, ◌<◌, ◌+◌, Bool, true, false, cond, sym, ap, ◌∙◌, codes, length, ltb}
use Rattle.std.proofs.Common.{Option, append_assoc, subst}
use Rattle.fnc_outside.specs.Writes.{AppendsPart}
use Rattle.fnc_journal.specs.History.{History}
use Rattle.fnc_journal.specs.Prefix.{prefix}
use Rattle.fnc_journal_text.specs.declared.form.Form.{Form}
use Rattle.fnc_journal_text.specs.Paper.{head_line, journal_text, line_at, printed, text}
use Rattle.fnc_journal_text.proofs.Lines.{text-more}
use Rattle.fnc_printing.proofs.Pieces.{part-of_front}

-- what is printed of one entry more
pub paper-more : (h : History) (n : ℕ) → n < length h →
    text (prefix (n + 1) h) Form.Journal ≡ text (prefix n h) Form.Journal ++ line_at n h
paper-more h n less =
    ap (λ (lines : List ℕ). (head_line ++ codes "\n") ++ lines) (text-more h n less)
    ∙ sym (append_assoc (head_line ++ codes "\n") (journal_text (prefix n h)) (line_at n h))

-- a part of what is printed of a prefix is a part of what is printed of all
pub paper-front : (start now : Option (List ℕ)) (h : History) (n : ℕ) →
    AppendsPart start now (text (prefix n h) Form.Journal) → AppendsPart start now (text h Form.Journal)
paper-front start now [] n p = p
paper-front start now (e ∷ before) n p = go (ltb (length before) n) p (λ q. paper-front start now before n q)
  where
    go : (b : Bool) → AppendsPart start now (text (cond b (e ∷ before) (prefix n before)) Form.Journal) →
        (AppendsPart start now (text (prefix n before) Form.Journal) →
        AppendsPart start now (text before Form.Journal)) →
        AppendsPart start now (text (e ∷ before) Form.Journal)
    go true p ih = p
    go false p ih =
        subst (AppendsPart start now) (append_assoc (head_line ++ codes "\n") (journal_text before) (printed e))
        (part-of_front start now (text before Form.Journal) (printed e) (ih p))
