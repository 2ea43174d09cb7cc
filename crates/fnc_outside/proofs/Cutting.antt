-- A text that has a byte begins with a line.
use Rattle.std.proofs.Common.{
  ◌≡◌,
  ◌+◌,
  ◌==◌,
  ℕ,
  List,
  [],
  ◌∷◌,
  Bool,
  true,
  false,
  if◌then◌else◌,
  take,
  drop,
  refl,
  add-one,
  suc,
  length,
  count_by,
  ◌≤◌,
  arith,
  sym,
  ◌<◌,
  length-drop,
  drop-drop,
  ◌-◌,
  ◌∙◌,
  ap,
  subst,
}
use Rattle.std.proofs.lemmas.List.{take_rest}
use Rattle.std.proofs.lemmas.List.Recursion.{is_count_by}
use Rattle.fnc_outside.specs.Lines.{put_first, lines_of, line_length}

-- the first line is what stands before the first line feed, and the others are those of what follows it
abbrev pub IsCut : List ℕ → Type 0
IsCut text = lines_of text ≡ take (line_length text) text ∷ lines_of (drop (line_length text + 1) text)

cut_by : (is_end : Bool) (byte : ℕ) (rest : List ℕ) → IsCut rest →
    (if is_end then [] ∷ lines_of rest else put_first byte (lines_of rest))
    ≡ take (if is_end then 0 else line_length rest + 1) (byte ∷ rest) ∷ lines_of
    (drop ((if is_end then 0 else line_length rest + 1) + 1) (byte ∷ rest))
cut_by true byte rest cut = refl
cut_by false byte rest cut = rw (cut, add-one (line_length rest), add-one (suc (line_length rest))) refl

last_by : (is_end : Bool) (byte : ℕ) →
    (if is_end then [] ∷ [] else put_first byte [])
    ≡ take (if is_end then 0 else 1) (byte ∷ []) ∷ lines_of (drop ((if is_end then 0 else 1) + 1) (byte ∷ []))
last_by true byte = refl
last_by false byte = refl

pub is_cut : (byte : ℕ) (rest : List ℕ) → IsCut (byte ∷ rest)
is_cut byte [] = last_by (byte == 10) byte
is_cut byte (next ∷ rest) = cut_by (byte == 10) byte (next ∷ rest) (is_cut next rest)

some_cut : (text : List ℕ) → 0 < length text → IsCut text
some_cut [] some = absurd (omega (arith, some))
some_cut (byte ∷ rest) some = is_cut byte rest

-- The line that begins at a place in a text, and what is left after its line feed. The code sees the text as a slice.
pub record IsCutAt (text : List ℕ) (at : ℕ) (seen : List ℕ) (size : ℕ) : Type 0 where
  pub same : seen ≡ drop at text
  pub lines : lines_of (drop at text) ≡ take size seen ∷ lines_of (drop (at + (size + 1)) text)
  pub one_less : length (lines_of (drop at text)) ≡ length (lines_of (drop (at + (size + 1)) text)) + 1
  pub within : at + size ≤ length text

pub cut_at : (text slice : List ℕ) (at size : ℕ) → slice ≡ text → at < length text →
    size ≡ line_length (take (length slice - at) (drop at slice)) →
    size ≤ length (take (length slice - at) (drop at slice)) →
    IsCutAt text at (take (length slice - at) (drop at slice)) size
cut_at text slice at size same within is short =
    let seen : take (length slice - at) (drop at slice) ≡ drop at text = rw same (take_rest text at) in
    let some : 0 < length (drop at text) = omega (arith, within, length-drop at text) in
    let is_length : size ≡ line_length (drop at text) = is ∙ ap line_length seen in
    let short_here : size ≤ length (drop at text) = subst (λ xs. size ≤ length xs) seen short in
    let lines : lines_of (drop at text) ≡ take size (drop at text) ∷ lines_of (drop (at + (size + 1)) text) =
    rw (is_length, some_cut (drop at text) some, drop-drop (line_length (drop at text) + 1) at text) refl in
    subst (λ xs. IsCutAt text at xs size) (sym seen)
    (record {
      same = refl;
      lines = lines;
      one_less = rw lines (omega arith);
      within = omega (arith, within, short_here, length-drop at text);
    })

-- line feeds, counted along the text
abbrev line_feeds : List ℕ → ℕ
line_feeds [] = 0
line_feeds (byte ∷ rest) = if byte == 10 then 1 + line_feeds rest else line_feeds rest

not_longer : (byte : ℕ) (lines : List (List ℕ)) (most : ℕ) → length lines ≤ most + 1 →
    length (put_first byte lines) ≤ most + 1
not_longer byte [] most bound = omega arith
not_longer byte (line ∷ lines) most bound = bound

few_by : (is_end : Bool) (byte feeds : ℕ) (lines : List (List ℕ)) → length lines ≤ feeds + 1 →
    length (if is_end then [] ∷ lines else put_first byte lines) ≤ (if is_end then 1 + feeds else feeds) + 1
few_by true byte feeds lines bound = omega (arith, bound)
few_by false byte feeds lines bound = not_longer byte lines feeds bound

few_lines : (text : List ℕ) → length (lines_of text) ≤ line_feeds text + 1
few_lines [] = omega arith
few_lines (byte ∷ rest) = few_by (byte == 10) byte (line_feeds rest) (lines_of rest) (few_lines rest)

-- a text has at most one line more than it has line feeds
pub lines_by_feeds : (text : List ℕ) → length (lines_of text) ≤ count_by (λ byte. byte == 10) text + 1
lines_by_feeds text =
    rw (sym (is_count_by line_feeds (λ byte. byte == 10) refl (λ _ _. refl) text)) (few_lines text)
