-- The words of a text from its first space or letter on.
use Rattle.std.proofs.Common.{◌≡◌, ℕ, ◌+◌, ◌-◌, ◌<◌, ◌≤◌, Bool, true, false, cond, List, [], ◌∷◌, length, get_or, take, drop, eqb, refl, sym, ap, ◌∙◌, ⊎_elim, Some, None, arith}
use Rattle.std.specs.Prelude.{filter, nat_lt, not}
use Rattle.std.specs.List.{prefix_len, position_or_len, slice_split, after_first}
use Rattle.std.proofs.Math.Numerals.{one-add}
use Rattle.std.proofs.lemmas.List.{drop-drop, drop_more, drop_all, take_all, length-take-le, length-drop}
use Rattle.std.proofs.lemmas.List.Sums.{passes_at_first, fails_before_first, prefix_len-le-length}
use Rattle.std.proofs.lemmas.List.Splits.{slice_split_none, slice_split_first}
use Rattle.std.proofs.lemmas.Bool.{cases_lt, lt-ltb}
use Rattle.std.proofs.lemmas.Bool.Decides.{nat_tests}
use Rattle.fnc_journal.proofs.Separators.{none_past_separators}
use Rattle.fnc_text.specs.Words.{is_space, word_from, words, NextWord}

-- a space at the front adds no word
words-space : (b : ℕ) (bs : List ℕ) → is_space b ≡ true → words (b ∷ bs) ≡ words bs
words-space b bs e = rw e refl

after_space : (b : ℕ) (bs : List ℕ) (space : Bool) → is_space b ≡ space
    → words (drop (prefix_len is_space bs) bs) ≡ words bs
    → words (drop (cond space (1 + prefix_len is_space bs) 0) (b ∷ bs)) ≡ words (b ∷ bs)
after_space b bs true e h = rw one-add (h ∙ sym (words-space b bs e))
after_space b bs false e h = refl

-- nor do all the spaces there
pub words-past_spaces : (bs : List ℕ) → words (drop (prefix_len is_space bs) bs) ≡ words bs
words-past_spaces [] = refl
words-past_spaces (b ∷ bs) = after_space b bs (is_space b) refl (words-past_spaces bs)

-- past the spaces there is no word only where there is nothing
pub words_none : (bs : List ℕ) → position_or_len is_space (drop (prefix_len is_space bs) bs) ≡ 0 → words bs ≡ []
words_none bs h = sym (words-past_spaces bs) ∙ ap words (none_past_separators is_space bs h)

-- a list of parts begins with one that has a byte
kept : (part : List ℕ) (parts : List (List ℕ)) → 0 < length part → filter (λ p. nat_lt 0 (length p)) (part ∷ parts)
    ≡ part ∷ filter (λ p. nat_lt 0 (length p)) parts
kept part parts h = rw (lt-ltb 0 (length part) h) refl

word_then_space : (bs : List ℕ) → 0 < position_or_len is_space bs → position_or_len is_space bs < length bs
    → words bs ≡ take (position_or_len is_space bs) bs ∷ words (drop (position_or_len is_space bs) bs)
word_then_space bs some more =
    let n = position_or_len is_space bs in
    let front : length (take n bs) ≡ n = length-take-le n bs (omega arith) in
    let rest = ap words (drop_more bs n 0 more)
    ∙ words-space (get_or bs n 0) (after_first is_space bs) (passes_at_first is_space bs 0 more) in
    ap (filter (λ p. nat_lt 0 (length p))) (slice_split_first is_space bs 0 more)
    ∙ kept (take n bs) (slice_split is_space (after_first is_space bs)) (omega arith)
    ∙ ap (λ ws. take n bs ∷ ws) (sym rest)

word_alone : (bs : List ℕ) → 0 < position_or_len is_space bs → length bs ≤ position_or_len is_space bs
    → words bs ≡ take (position_or_len is_space bs) bs ∷ words (drop (position_or_len is_space bs) bs)
word_alone bs some all =
    let n = position_or_len is_space bs in
    let within = prefix_len-le-length (λ b. not (is_space b)) bs in
    rw (take_all n bs all, drop_all n bs all)
    (ap (filter (λ p. nat_lt 0 (length p))) (slice_split_none is_space bs (λ k d h.
    fails_before_first is_space bs k d (omega arith))) ∙ kept bs [] (omega arith))

-- a text that begins with a letter begins with a word
pub words_some : (bs : List ℕ) → 0 < position_or_len is_space bs → words bs ≡ take (position_or_len is_space bs) bs
    ∷ words (drop (position_or_len is_space bs) bs)
words_some bs some =
    ⊎_elim (word_then_space bs some) (word_alone bs some) (cases_lt (position_or_len is_space bs) (length bs))

module _ (line : List ℕ) (from : ℕ) (inside : from ≤ length line) where
  abbrev rest : List ℕ
  rest = drop from line

  abbrev start : ℕ
  start = from + prefix_len is_space rest

  abbrev letters : ℕ
  letters = position_or_len is_space (drop start line)

  -- what follows the spaces is what stands at the start of the word
  moved : drop (prefix_len is_space rest) rest ≡ drop start line
  moved = drop-drop (prefix_len is_space rest) from line

  found : (none : Bool) → eqb letters 0 ≡ none
      → NextWord line from (cond none None (Some (record { start = start; end = start + letters })))
  found true e =
      let stuck : letters ≡ 0 = grind (arith, nat_tests) in
      words_none rest (ap (position_or_len is_space) moved ∙ stuck)
  found false e =
      let some : 0 < letters = grind (arith, nat_tests) in
      let spaces = prefix_len-le-length is_space rest in
      let fits = prefix_len-le-length (λ b. not (is_space b)) (drop start line) in
      let length_rest = length-drop from line in
      let length_word = length-drop start line in
      let width : start + letters - start ≡ letters = omega arith in (
        omega arith,
        omega arith,
        omega arith,
        sym (words-past_spaces rest) ∙ ap words moved
            ∙ words_some (drop start line) some ∙ rw (width, drop-drop letters start line) refl,
      )

  -- the next word by places is the next word of the list
  pub next_word : NextWord line from (word_from line from)
  next_word = found (eqb letters 0) refl
