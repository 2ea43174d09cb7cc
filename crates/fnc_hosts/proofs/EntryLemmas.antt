-- The entries of a text from its first separator or letter on.
use Rattle.std.proofs.Common.{
  ◌≡◌,
  ℕ,
  ◌+◌,
  ◌-◌,
  ◌<◌,
  ◌≤◌,
  Bool,
  true,
  false,
  cond,
  List,
  [],
  ◌∷◌,
  length,
  get_or,
  take,
  drop,
  refl,
  sym,
  ap,
  ◌∙◌,
  ⊎_elim,
  subst,
  arith,
}
use Rattle.std.specs.Prelude.{filter, nat_lt, not, slice_range}
use Rattle.std.specs.List.{prefix_len, position_or_len, slice_split, after_first}
use Rattle.std.proofs.Math.Numerals.{one-add}
use Rattle.std.proofs.lemmas.List.{drop-drop, drop_more, drop_all, take_all, length-take-le, length-drop}
use Rattle.std.proofs.lemmas.List.Sums.{passes_at_first, fails_before_first, prefix_len-le-length}
use Rattle.std.proofs.lemmas.List.Splits.{slice_split_none, slice_split_first}
use Rattle.std.proofs.lemmas.Bool.{cases_lt, lt-ltb}
use Rattle.fnc_journal.proofs.Separators.{none_past_separators}
use Rattle.fnc_hosts.specs.Entries.{Entry, placed_from, entries_from}

module _ (separator : ℕ → Bool) where
  moved : (m n : ℕ) (bs : List ℕ) → m ≡ n → entries_from separator m bs ≡ entries_from separator n bs
  moved m n bs e = ap (λ place. entries_from separator place bs) e

  -- a separator at the front adds no entry
  entries_from-separator : (place b : ℕ) (bs : List ℕ) → separator b ≡ true
      → entries_from separator place (b ∷ bs) ≡ entries_from separator (place + 1) bs
  entries_from-separator place b bs e = rw e refl

  after_separator : (place b : ℕ) (bs : List ℕ) (is : Bool) → separator b ≡ is
      → entries_from separator (place + 1 + prefix_len separator bs) (drop (prefix_len separator bs) bs)
      ≡ entries_from separator (place + 1) bs
      → entries_from separator (place + cond is (1 + prefix_len separator bs) 0)
      (drop (cond is (1 + prefix_len separator bs) 0) (b ∷ bs)) ≡ entries_from separator place (b ∷ bs)
  after_separator place b bs true e h =
      let at : place + (1 + prefix_len separator bs) ≡ place + 1 + prefix_len separator bs = omega arith in
      rw (at, one-add) (h ∙ sym (entries_from-separator place b bs e))
  after_separator place b bs false e h = moved (place + 0) place (b ∷ bs) (omega arith)

  -- nor do all the separators there
  past_separators : (place : ℕ) (bs : List ℕ)
      → entries_from separator (place + prefix_len separator bs) (drop (prefix_len separator bs) bs)
      ≡ entries_from separator place bs
  past_separators place [] = refl
  past_separators place (b ∷ bs) =
      after_separator place b bs (separator b) refl (past_separators (place + 1) bs)

  -- a text of separators alone has no entry
  pub entries_from-none : (place : ℕ) (bs : List ℕ) → position_or_len separator (drop (prefix_len separator bs) bs)
      ≡ 0 → entries_from separator place bs ≡ []
  entries_from-none place bs h =
      let k = prefix_len separator bs in
      sym (past_separators place bs) ∙ ap (entries_from separator (place + k)) (none_past_separators separator bs h)

  -- a part with a byte is an entry
  kept : (place : ℕ) (part : List ℕ) (parts : List (List ℕ)) → 0 < length part
      → filter (λ (e : Entry). nat_lt 0 (length e.text)) (placed_from place (part ∷ parts))
      ≡ record { place = place; text = part } ∷ filter (λ (e : Entry). nat_lt 0 (length e.text))
      (placed_from (place + (length part + 1)) parts)
  kept place part parts h = rw (lt-ltb 0 (length part) h) refl

  then_separator : (place : ℕ) (bs : List ℕ) → 0 < position_or_len separator bs
      → position_or_len separator bs < length bs → entries_from separator place bs
      ≡ record { place = place; text = take (position_or_len separator bs) bs }
      ∷ entries_from separator (place + position_or_len separator bs) (drop (position_or_len separator bs) bs)
  then_separator place bs some more =
      let n = position_or_len separator bs in
      let parts = slice_split separator (after_first separator bs) in
      let front : length (take n bs) ≡ n = length-take-le n bs (omega arith) in
      let rest : entries_from separator (place + n) (drop n bs)
      ≡ entries_from separator (place + (length (take n bs) + 1)) (after_first separator bs) =
      ap (entries_from separator (place + n)) (drop_more bs n 0 more)
      ∙ entries_from-separator (place + n) (get_or bs n 0) (after_first separator bs)
      (passes_at_first separator bs 0 more)
      ∙ moved (place + n + 1) (place + (length (take n bs) + 1)) (after_first separator bs) (omega arith)
      in
      ap (λ ps. filter (λ (e : Entry). nat_lt 0 (length e.text)) (placed_from place ps))
      (slice_split_first separator bs 0 more)
      ∙ kept place (take n bs) parts (omega arith)
      ∙ ap (λ es. record { place = place; text = take n bs } ∷ es) (sym rest)

  alone : (place : ℕ) (bs : List ℕ) → 0 < position_or_len separator bs → length bs ≤ position_or_len separator bs
      → entries_from separator place bs ≡ record { place = place; text = take (position_or_len separator bs) bs }
      ∷ entries_from separator (place + position_or_len separator bs) (drop (position_or_len separator bs) bs)
  alone place bs some all =
      let n = position_or_len separator bs in
      let within = prefix_len-le-length (λ b. not (separator b)) bs in
      rw (take_all n bs all, drop_all n bs all)
      (ap (λ ps. filter (λ (e : Entry). nat_lt 0 (length e.text)) (placed_from place ps))
      (slice_split_none separator bs (λ k d h. fails_before_first separator bs k d (omega arith)))
      ∙ kept place bs [] (omega arith))

  at_letter : (place : ℕ) (bs : List ℕ) → 0 < position_or_len separator bs
      → entries_from separator place bs ≡ record { place = place; text = take (position_or_len separator bs) bs }
      ∷ entries_from separator (place + position_or_len separator bs) (drop (position_or_len separator bs) bs)
  at_letter place bs some =
      ⊎_elim (then_separator place bs some) (alone place bs some) (cases_lt (position_or_len separator bs) (length bs))

  -- the first entry stands past the separators, up to the next one
  pub entries_from-some : (place : ℕ) (bs : List ℕ) (k n : ℕ) → k ≡ prefix_len separator bs
      → n ≡ position_or_len separator (drop k bs) → 0 < n → entries_from separator place bs
      ≡ record { place = place + k; text = take n (drop k bs) }
      ∷ entries_from separator (place + k + n) (drop (k + n) bs)
  entries_from-some place bs k n at width some =
      let skipped = subst (λ j. entries_from separator (place + j) (drop j bs) ≡ entries_from separator place bs)
      (sym at) (past_separators place bs) in
      let cut =
      subst (λ m. entries_from separator (place + k) (drop k bs)
      ≡ record { place = place + k; text = take m (drop k bs) }
      ∷ entries_from separator (place + k + m) (drop m (drop k bs))) (sym width)
      (at_letter (place + k) (drop k bs) (omega arith)) in
      sym skipped ∙ rw (drop-drop n k bs) at cut

  -- what is cut off by these places is the first entry
  pub cut_first : (bs entry rest : List ℕ) (k n : ℕ) → k ≡ prefix_len separator bs
      → n ≡ position_or_len separator (drop k bs) → k + n ≤ length bs → 0 < n → entry ≡ slice_range bs k (k + n)
      → rest ≡ drop (k + n) bs → (0 < length entry) × (k + length entry + length rest ≡ length bs)
      × ((place : ℕ) → entries_from separator place bs ≡ record { place = place + k; text = entry }
      ∷ entries_from separator (place + k + length entry) rest)
  cut_first bs entry rest k n at width inside some e r =
      let long = length-drop k bs in
      let wide : k + n - k ≡ n = omega arith in
      let is : entry ≡ take n (drop k bs) = e ∙ ap (λ m. take m (drop k bs)) wide in
      let size : length entry ≡ n = ap length is ∙ length-take-le n (drop k bs) (omega arith) in
      let left : length rest ≡ length bs - (k + n) = ap length r ∙ length-drop (k + n) bs in (
        omega arith,
        omega arith,
        λ place. rw (is, r, length-take-le n (drop k bs) (omega arith))
            (entries_from-some place bs k n at width some),
      )
