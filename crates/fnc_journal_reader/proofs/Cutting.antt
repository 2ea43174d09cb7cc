-- How a text is cut at a byte, by places.
use Rattle.std.proofs.Common.{
  ◌≡◌,
  ◌<◌,
  ◌+◌,
  ◌-◌,
  ◌==◌,
  ℕ,
  zero,
  suc,
  List,
  [],
  ◌∷◌,
  Bool,
  true,
  false,
  cond,
  length,
  drop,
  take,
  get_or,
  refl,
  sym,
  ap,
  ◌∙◌,
  arith,
  subst,
  add-one,
  false-eqb,
}
use Rattle.std.specs.Prelude.{not}
use Rattle.std.specs.List.{position_or_len}
use Rattle.std.proofs.Math.Numerals.{one-add}
use Rattle.std.proofs.lemmas.List.{take_rest, drop-drop, drop_all}
use Rattle.fnc_journal_reader.specs.Cuts.{front, after, parts, onto_first, nth, words}

pub front-taken : (sep : ℕ) (text : List ℕ) → take (position_or_len (λ b. b == sep) text) text ≡ front sep text
front-taken sep [] = refl
front-taken sep (b ∷ bs) = go (b == sep) (front-taken sep bs)
  where
    go : (is : Bool) → take (position_or_len (λ b. b == sep) bs) bs ≡ front sep bs →
        take (cond (not is) (1 + position_or_len (λ b. b == sep) bs) 0) (b ∷ bs) ≡ cond is [] (b ∷ front sep bs)
    go true ih = refl
    go false ih = rw one-add (ap (λ r. b ∷ r) ih)

pub after-dropped : (sep : ℕ) (text : List ℕ) → drop (position_or_len (λ b. b == sep) text + 1) text ≡ after sep text
after-dropped sep [] = refl
after-dropped sep (b ∷ bs) = go (b == sep) (after-dropped sep bs)
  where
    go : (is : Bool) → drop (position_or_len (λ b. b == sep) bs + 1) bs ≡ after sep bs →
        drop (cond (not is) (1 + position_or_len (λ b. b == sep) bs) 0 + 1) (b ∷ bs) ≡ cond is bs (after sep bs)
    go true ih = refl
    go false ih =
        rw (one-add, add-one) (subst (λ n. drop n bs ≡ after sep bs) (add-one (position_or_len (λ b. b == sep) bs)) ih)

-- the code's slices
pub after-slice : (sep n : ℕ) (text : List ℕ) → n ≡ position_or_len (λ b. b == sep) text →
    take (length text - (n + 1)) (drop (n + 1) text) ≡ after sep text
after-slice sep n text e = take_rest text (n + 1) ∙ ap (λ k. drop (k + 1) text) e ∙ after-dropped sep text

pub after-nothing : (sep n : ℕ) (text : List ℕ) → n ≡ position_or_len (λ b. b == sep) text → n ≡ length text →
    take (length text - n) (drop n text) ≡ after sep text
after-nothing sep n text e all =
    take_rest text n ∙ drop_all n text (omega (arith, all)) ∙ sym (drop_all (n + 1) text (omega (arith, all)))
    ∙ ap (λ k. drop (k + 1) text) e ∙ after-dropped sep text

-- a text that is not empty begins with what stands before the byte
pub parts-cut : (sep b : ℕ) (bs : List ℕ) → parts sep (b ∷ bs) ≡ front sep (b ∷ bs) ∷ parts sep (after sep (b ∷ bs))
parts-cut sep b [] = go (b == sep)
  where
    go : (is : Bool) → cond is ([] ∷ []) (onto_first b []) ≡ cond is [] (b ∷ []) ∷ parts sep (cond is [] [])
    go true = refl
    go false = refl
parts-cut sep b (c ∷ cs) = go (b == sep) (parts-cut sep c cs)
  where
    go : (is : Bool) → parts sep (c ∷ cs) ≡ front sep (c ∷ cs) ∷ parts sep (after sep (c ∷ cs)) →
        cond is ([] ∷ parts sep (c ∷ cs)) (onto_first b (parts sep (c ∷ cs))) ≡ cond is [] (b ∷ front sep (c ∷ cs))
        ∷ parts sep (cond is (c ∷ cs) (after sep (c ∷ cs)))
    go true ih = refl
    go false ih = ap (onto_first b) ih

pub parts-after : (sep : ℕ) (text : List ℕ) → parts sep (after sep text) ≡ drop 1 (parts sep text)
parts-after sep [] = refl
parts-after sep (b ∷ bs) = sym (ap (drop 1) (parts-cut sep b bs))

pub parts-front : (sep : ℕ) (text : List ℕ) → front sep text ≡ get_or (parts sep text) 0 []
parts-front sep [] = refl
parts-front sep (b ∷ bs) = sym (ap (λ (ps : List (List ℕ)). get_or ps 0 []) (parts-cut sep b bs))

pub nth-drop : (n : ℕ) (xs : List (List ℕ)) → get_or (drop n xs) 0 [] ≡ get_or xs n []
nth-drop zero xs = refl
nth-drop (suc n) [] = refl
nth-drop (suc n) (x ∷ xs) = nth-drop n xs

pub words-passed : (rest line next : List ℕ) (n : ℕ) → next ≡ after 32 rest → words rest ≡ drop n (words line) →
    words next ≡ drop (n + 1) (words line)
words-passed rest line next n e h = ap words e ∙ parts-after 32 rest ∙ ap (drop 1) h ∙ drop-drop 1 n (words line)

pub word-front : (rest line word : List ℕ) (n : ℕ) → word ≡ front 32 rest → words rest ≡ drop n (words line) →
    word ≡ nth (words line) n
word-front rest line word n e h =
    e ∙ parts-front 32 rest ∙ ap (λ (ps : List (List ℕ)). get_or ps 0 []) h ∙ nth-drop n (words line)

-- a cut leaves less
pub after-shorter : (sep b : ℕ) (bs : List ℕ) → length (after sep (b ∷ bs)) < length (b ∷ bs)
after-shorter sep b [] = go (b == sep)
  where
    go : (is : Bool) → length {A = ℕ} (cond is [] []) < 1
    go true = omega arith
    go false = omega arith
after-shorter sep b (c ∷ cs) = go (b == sep) (after-shorter sep c cs)
  where
    go : (is : Bool) → length (after sep (c ∷ cs)) < length (c ∷ cs) →
        length (cond is (c ∷ cs) (after sep (c ∷ cs))) < length (b ∷ c ∷ cs)
    go true ih = omega arith
    go false ih = omega (arith, ih)

-- a text that has a byte is cut at its front
pub record IsCut (sep : ℕ) (text : List ℕ) : Type 0 where
  pub cut : parts sep text ≡ front sep text ∷ parts sep (after sep text)
  pub shorter : length (after sep text) < length text

pub is_cut : (sep : ℕ) (text : List ℕ) → 0 < length text → IsCut sep text
is_cut sep [] some = absurd (omega (arith, some))
is_cut sep (b ∷ bs) some = record { cut = parts-cut sep b bs; shorter = after-shorter sep b bs }

pub not_empty : (sep : ℕ) (text : List ℕ) (empty : Bool) → empty ≡ (length text == 0) → empty ≡ false → IsCut sep text
not_empty sep text empty e f =
    let some : length text ≡ 0 → ⊥ = false-eqb (length text) 0 (sym f ∙ e) in
    is_cut sep text (omega arith)
