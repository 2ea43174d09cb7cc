-- The line of the entry of an index, and the text that grows by it.
use Rattle.std.proofs.Common.{◌≡◌, ◌<◌, ◌+◌, ◌==◌, ℕ, List, [], ◌∷◌, ◌++◌, Bool, true, false, cond, Option, Some, length, refl, sym, ap, subst, arith, append-nil, decimal, eqb-true, false-eqb, le-ltb, lt-ltb}
use Rattle.fnc_outside.specs.Told.{Gains}
use Rattle.fnc_outside.specs.Writes.{AppendsPart}
use Rattle.fnc_outside.proofs.Telling.{gains-part}
use Rattle.fnc_journal.specs.declared.entry.Entry.{Entry}
use Rattle.fnc_journal.specs.History.{History}
use Rattle.fnc_journal.specs.Found.{entry_at}
use Rattle.fnc_journal.specs.Prefix.{prefix}
use Rattle.fnc_journal.proofs.Prefixes.{prefix-all}
use Rattle.fnc_journal_text.specs.Paper.{printed, line_at, journal_text}
use Rattle.fnc_journal_text.specs.Spelled.{line_of, spaced, words_of}

pub line-found : (h : History) (n : ℕ) (e : Entry) → entry_at n h ≡ Some e → line_at n h ≡ printed e
line-found [] n e f = cc
line-found (d ∷ before) n e f = go (n == length before) f (line-found before n e)
  where
    go : (b : Bool) → cond b (Some d) (entry_at n before) ≡ Some e → (entry_at n before ≡ Some e → line_at n before ≡ printed e) → cond b (printed d) (line_at n before) ≡ printed e
    go true f ih = let same : d ≡ e = cc in ap printed same
    go false f ih = ih f

-- the line of one entry more
pub text-more : (h : History) (n : ℕ) → n < length h → journal_text (prefix (n + 1) h) ≡ journal_text (prefix n h) ++ line_at n h
text-more [] n l = absurd (omega arith)
text-more (e ∷ before) n l = go (n == length before) refl (λ k. text-more before n k)
  where
    go : (b : Bool) → (n == length before) ≡ b → (n < length before → journal_text (prefix (n + 1) before) ≡ journal_text (prefix n before) ++ line_at n before) →
        journal_text (prefix (n + 1) (e ∷ before)) ≡ journal_text (prefix n (e ∷ before)) ++ cond b (printed e) (line_at n before)
    go true p ih =
        let same : n ≡ length before = eqb-true n (length before) p in
        rw (lt-ltb (length before) (n + 1) (omega arith), le-ltb (length before) n (omega arith), prefix-all before n (omega arith)) refl
    go false p ih =
        let other : n ≡ length before → ⊥ = false-eqb n (length before) (sym p) in
        let less : n < length before = omega arith in
        rw (le-ltb (length before) (n + 1) (omega arith), le-ltb (length before) n (omega arith)) (ih less)

-- the words after the moment, or a part of them
pub words-cut : (e : Entry) (start first second : Option (List ℕ)) → Gains start first (decimal e.moment ++ []) → AppendsPart first second (spaced (words_of e.event)) →
    AppendsPart start second (line_of e)
words-cut e start first second moment part =
    gains-part start first second (decimal e.moment) (spaced (words_of e.event)) (subst (Gains start first) (append-nil (decimal e.moment)) moment) part
