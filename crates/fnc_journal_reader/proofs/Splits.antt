-- Parts that were written with a separator between them are told apart.
use Rattle.std.proofs.Common.{
  ◌≡◌,
  ◌==◌,
  ℕ,
  List,
  [],
  ◌∷◌,
  ◌++◌,
  Bool,
  true,
  false,
  ◌&&◌,
  ◌||◌,
  map,
  refl,
  ap,
  ◌∙◌,
  append-nil,
  arith,
}
use Rattle.std.specs.Prelude.{not}
use Rattle.std.specs.List.{list_all, list_any}
use Rattle.std.proofs.lemmas.Bool.{and_parts}
use Rattle.std.proofs.lemmas.Bool.Decides.{nat_tests}
use Rattle.fnc_journal_reader.specs.Cuts.{front, after, parts, onto_first}
use Rattle.fnc_journal_text.specs.Spelled.{listed, spaced}
use Rattle.fnc_journal_reader.proofs.Spellings.{has_byte, lacks, lacks-append, not-true}

same-byte : (sep : ℕ) → (sep == sep) ≡ true
same-byte sep = grind (arith, nat_tests)

record Lacks (sep b : ℕ) (bs : List ℕ) : Type 0 where
  here : (b == sep) ≡ false
  rest : lacks sep bs ≡ true

lacks-parts : (sep b : ℕ) (bs : List ℕ) → lacks sep (b ∷ bs) ≡ true → Lacks sep b bs
lacks-parts sep b bs h =
    let two = and_parts (not (b == sep)) (lacks sep bs) h in
    record { here = not-true (b == sep) two.0; rest = two.1 }

pub front-at : (sep : ℕ) (w rest : List ℕ) → lacks sep w ≡ true → front sep (w ++ sep ∷ rest) ≡ w
front-at sep [] rest h = rw (same-byte sep) refl
front-at sep (b ∷ bs) rest h =
    let two = lacks-parts sep b bs h in rw two.here (ap (λ r. b ∷ r) (front-at sep bs rest two.rest))

pub after-at : (sep : ℕ) (w rest : List ℕ) → lacks sep w ≡ true → after sep (w ++ sep ∷ rest) ≡ rest
after-at sep [] rest h = rw (same-byte sep) refl
after-at sep (b ∷ bs) rest h = let two = lacks-parts sep b bs h in rw two.here (after-at sep bs rest two.rest)

-- whether a text has such a byte
pub any-at : (sep : ℕ) (w rest : List ℕ) → list_any (λ b. b == sep) (w ++ sep ∷ rest) ≡ true
any-at sep [] rest = rw (same-byte sep) refl
any-at sep (b ∷ bs) rest = go (b == sep) (any-at sep bs rest)
  where
    go : (is : Bool) → list_any (λ c. c == sep) (bs ++ sep ∷ rest) ≡ true →
        (is || list_any (λ c. c == sep) (bs ++ sep ∷ rest)) ≡ true
    go true h = refl
    go false h = h

pub any-none : (sep : ℕ) (w : List ℕ) → lacks sep w ≡ true → list_any (λ b. b == sep) w ≡ false
any-none sep [] h = refl
any-none sep (b ∷ bs) h = let two = lacks-parts sep b bs h in rw two.here (any-none sep bs two.rest)

-- a part that can be told apart: it has a byte, and not the separator
abbrev pub is_part : ℕ → List ℕ → Bool
is_part sep w = has_byte w && lacks sep w

parts-at : (sep : ℕ) (w rest : List ℕ) → lacks sep w ≡ true → parts sep (w ++ sep ∷ rest) ≡ w ∷ parts sep rest
parts-at sep [] rest h = rw (same-byte sep) refl
parts-at sep (b ∷ bs) rest h =
    let two = lacks-parts sep b bs h in rw two.here (ap (onto_first b) (parts-at sep bs rest two.rest))

parts-one : (sep : ℕ) (w : List ℕ) → has_byte w ≡ true → lacks sep w ≡ true → parts sep w ≡ w ∷ []
parts-one sep [] k h = absurd cc
parts-one sep (b ∷ []) k h = let two = lacks-parts sep b [] h in rw two.here refl
parts-one sep (b ∷ c ∷ cs) k h =
    let two = lacks-parts sep b (c ∷ cs) h in rw two.here (ap (onto_first b) (parts-one sep (c ∷ cs) refl two.rest))

module _ {X : Type 0} (sep : ℕ) (spell : X → List ℕ) (p q : X → Bool)
    (part : (x : X) → p x ≡ true → q x ≡ true → is_part sep (spell x) ≡ true) where
  parts-then : (w : List ℕ) (xs : List X) → is_part sep w ≡ true → list_all p xs ≡ true → list_all q xs ≡ true →
      parts sep (w ++ listed (sep ∷ []) (sep ∷ []) spell xs) ≡ w ∷ map spell xs
  parts-then w [] h k l =
      let two = and_parts (has_byte w) (lacks sep w) h in ap (parts sep) (append-nil w) ∙ parts-one sep w two.0 two.1
  parts-then w (x ∷ xs) h k l =
      let two = and_parts (has_byte w) (lacks sep w) h in
      let ps = and_parts (p x) (list_all p xs) k in
      let qs = and_parts (q x) (list_all q xs) l in
      parts-at sep w (spell x ++ listed (sep ∷ []) (sep ∷ []) spell xs) two.1
      ∙ ap (λ r. w ∷ r) (parts-then (spell x) xs (part x ps.0 qs.0) ps.1 qs.1)

  pub parts-listed : (xs : List X) → list_all p xs ≡ true → list_all q xs ≡ true →
      parts sep (listed [] (sep ∷ []) spell xs) ≡ map spell xs
  parts-listed [] k l = refl
  parts-listed (x ∷ xs) k l =
      let ps = and_parts (p x) (list_all p xs) k in
      let qs = and_parts (q x) (list_all q xs) l in
      parts-then (spell x) xs (part x ps.0 qs.0) ps.1 qs.1

module _ {X : Type 0} (sep : ℕ) (before between : List ℕ) (spell : X → List ℕ) (p q : X → Bool)
    (clean : (x : X) → p x ≡ true → q x ≡ true → lacks sep (spell x) ≡ true) where
  -- a list lacks what its items and its separators lack
  pub listed-lacks : lacks sep before ≡ true → lacks sep between ≡ true → (xs : List X) → list_all p xs ≡ true →
      list_all q xs ≡ true → lacks sep (listed before between spell xs) ≡ true
  listed-lacks b c [] k l = refl
  listed-lacks b c (x ∷ xs) k l =
      let ps = and_parts (p x) (list_all p xs) k in
      let qs = and_parts (q x) (list_all q xs) l in
      lacks-append sep (before ++ spell x) (listed between between spell xs)
      (lacks-append sep before (spell x) b (clean x ps.0 qs.0)) (more xs ps.1 qs.1)
    where
      more : (ys : List X) → list_all p ys ≡ true → list_all q ys ≡ true →
          lacks sep (listed between between spell ys) ≡ true
      more [] m n = refl
      more (y ∷ ys) m n =
          let ps = and_parts (p y) (list_all p ys) m in
          let qs = and_parts (q y) (list_all q ys) n in
          lacks-append sep (between ++ spell y) (listed between between spell ys)
          (lacks-append sep between (spell y) c (clean y ps.0 qs.0)) (more ys ps.1 qs.1)

spaced-listed : (ws : List (List ℕ)) → spaced ws ≡ listed (32 ∷ []) (32 ∷ []) (λ w. w) ws
spaced-listed [] = refl
spaced-listed (w ∷ ws) = ap (λ r. (32 ∷ w) ++ r) (spaced-listed ws)

map-same : (ws : List (List ℕ)) → map (λ (w : List ℕ). w) ws ≡ ws
map-same [] = refl
map-same (w ∷ ws) = ap (λ r. w ∷ r) (map-same ws)

-- the words of a line are told apart
pub words-back : (w : List ℕ) (ws : List (List ℕ)) → is_part 32 w ≡ true → list_all (is_part 32) ws ≡ true →
    parts 32 (w ++ spaced ws) ≡ w ∷ ws
words-back w ws h k =
    ap (λ r. parts 32 (w ++ r)) (spaced-listed ws)
    ∙ parts-then 32 (λ v. v) (is_part 32) (is_part 32) (λ v e f. e) w ws h k k ∙ ap (λ r. w ∷ r) (map-same ws)
