-- What the entries of a text are made of: its bytes that are no separators.
use Rattle.std.proofs.Common.{◌≡◌, ℕ, zero, suc, ◌+◌, ◌<◌, ◌≤◌, Bool, true, false, cond, ◌&&◌, ◌||◌, List, [], ◌∷◌, length, Result, Ok, Err, refl, sym, ◌∙◌, ap, subst, arith}
use Rattle.std.specs.Prelude.{map, filter, not, nat_lt}
use Rattle.std.specs.List.{list_all, list_any, AllByRecursion, slice_split, onto_first}
use Rattle.std.proofs.lemmas.Bool.{and_parts, and_from, not_from_false, ltb-true, lt-ltb, true≢false}
use Rattle.fnc_hosts.specs.declared.hosts.HostFault.{HostFault}
use Rattle.fnc_hosts.specs.Entries.{Entry, placed_from, entries_from}
use Rattle.fnc_hosts.specs.Hosts.{before, together}

module _ (separator q : ℕ → Bool) where
  -- a part of a text of at most n bytes that pass q
  pub record IsPart (n : ℕ) (part : List ℕ) : Type 0 where
    pub short : length part ≤ n
    pub bytes : list_all (λ b. q b && not (separator b)) part ≡ true

  longer : (n : ℕ) (part : List ℕ) → IsPart n part → IsPart (suc n) part
  longer n part h = record { short = omega arith; bytes = h.bytes }

  all_longer : (n : ℕ) (parts : List (List ℕ)) → AllByRecursion (IsPart n) parts → AllByRecursion (IsPart (suc n)) parts
  all_longer n [] h = tt
  all_longer n (part ∷ parts) h = (longer n part h.0, all_longer n parts h.1)

  empty : (n : ℕ) → IsPart n []
  empty n = record { short = omega arith; bytes = refl }

  onto : (n b : ℕ) (parts : List (List ℕ)) → q b ≡ true → separator b ≡ false → AllByRecursion (IsPart n) parts
      → AllByRecursion (IsPart (suc n)) (onto_first b parts)
  onto n b [] passes other h =
      (record { short = omega arith; bytes = and_from _ _ (and_from _ _ passes (not_from_false _ other)) refl }, tt)
  onto n b (part ∷ parts) passes other h =
      let first = h.0 in (
        record {
          short = omega arith;
          bytes = and_from _ _ (and_from _ _ passes (not_from_false _ other)) first.bytes;
        },
        all_longer n parts h.1,
      )

  cut : (n b : ℕ) (parts : List (List ℕ)) (is : Bool) → separator b ≡ is → q b ≡ true
      → AllByRecursion (IsPart n) parts → AllByRecursion (IsPart (suc n)) (cond is ([] ∷ parts) (onto_first b parts))
  cut n b parts true e passes h = (empty (suc n), all_longer n parts h)
  cut n b parts false e passes h = onto n b parts passes e h

  parts_of : (n : ℕ) (text : List ℕ) → length text ≤ n → list_all q text ≡ true
      → AllByRecursion (IsPart n) (slice_split separator text)
  parts_of n [] short h = (empty n, tt)
  parts_of zero (b ∷ bs) short h = absurd (omega arith)
  parts_of (suc n) (b ∷ bs) short h =
      let both = and_parts _ _ h in
      cut n b (slice_split separator bs) (separator b) refl both.0 (parts_of n bs (omega arith) both.1)

  -- an entry is a part that has a byte
  pub record IsEntry (n : ℕ) (e : Entry) : Type 0 where
    pub some : 0 < length e.text
    pub part : IsPart n e.text

  kept : (n : ℕ) (e : Entry) (es : List Entry) (some : Bool) → nat_lt 0 (length e.text) ≡ some → IsPart n e.text
      → AllByRecursion (IsEntry n) es → AllByRecursion (IsEntry n) (cond some (e ∷ es) es)
  kept n e es true h part rest = (record { some = ltb-true _ _ h; part = part }, rest)
  kept n e es false h part rest = rest

  placed : (n place : ℕ) (parts : List (List ℕ)) → AllByRecursion (IsPart n) parts
      → AllByRecursion (IsEntry n) (filter (λ (e : Entry). nat_lt 0 (length e.text)) (placed_from place parts))
  placed n place [] h = tt
  placed n place (part ∷ parts) h =
      kept n (record { place = place; text = part }) _ (nat_lt 0 (length part)) refl h.0
      (placed n (place + (length part + 1)) parts h.1)

  pub entries_are : (n : ℕ) (text : List ℕ) → length text ≤ n → list_all q text ≡ true
      → AllByRecursion (IsEntry n) (entries_from separator 0 text)
  entries_are n text short h = placed n 0 (slice_split separator text) (parts_of n text short h)

-- a text with a letter has an entry, where letters are no separators
module _ (separator letter : ℕ → Bool) (other : (b : ℕ) → letter b ≡ true → separator b ≡ false) where
  abbrev has_byte : List (List ℕ) → Bool
  has_byte parts = list_any (λ part. nat_lt 0 (length part)) parts

  has_byte-onto : (b : ℕ) (parts : List (List ℕ)) → has_byte (onto_first b parts) ≡ true
  has_byte-onto b [] = refl
  has_byte-onto b (part ∷ parts) =
      let some : nat_lt 0 (length (b ∷ part)) ≡ true = lt-ltb 0 (length (b ∷ part)) (omega arith) in rw some refl

  has_byte-cut : (b : ℕ) (parts : List (List ℕ)) (rest is at : Bool) → letter b ≡ at → separator b ≡ is
      → (rest ≡ true → has_byte parts ≡ true) → (at || rest) ≡ true
      → has_byte (cond is ([] ∷ parts) (onto_first b parts)) ≡ true
  has_byte-cut b parts rest false at l e more h = has_byte-onto b parts
  has_byte-cut b parts rest true false l e more h = more h
  has_byte-cut b parts rest true true l e more h = absurd (true≢false (sym e ∙ other b l))

  part_has_byte : (text : List ℕ) → list_any letter text ≡ true → has_byte (slice_split separator text) ≡ true
  part_has_byte [] h = absurd cc
  part_has_byte (b ∷ bs) h =
      has_byte-cut b (slice_split separator bs) (list_any letter bs) (separator b) (letter b) refl refl
      (part_has_byte bs) h

  placed-some : (place : ℕ) (parts : List (List ℕ)) → has_byte parts ≡ true
      → 0 < length (filter (λ (e : Entry). nat_lt 0 (length e.text)) (placed_from place parts))
  placed-some place [] h = absurd cc
  placed-some place (part ∷ parts) h = kept-some (nat_lt 0 (length part)) h
      (placed-some (place + (length part + 1)) parts) where
        kept-some : (some : Bool) → (some || has_byte parts) ≡ true
            → (has_byte parts ≡ true
            → 0 < length
            (filter (λ (e : Entry). nat_lt 0 (length e.text)) (placed_from (place + (length part + 1)) parts)))
            → 0 < length
            (cond some (record { place = place; text = part }
            ∷ filter (λ (e : Entry). nat_lt 0 (length e.text)) (placed_from (place + (length part + 1)) parts))
            (filter (λ (e : Entry). nat_lt 0 (length e.text)) (placed_from (place + (length part + 1)) parts)))
        kept-some true h more = omega arith
        kept-some false h more = more h

  pub entries-some : (text : List ℕ) → list_any letter text ≡ true → 0 < length (entries_from separator 0 text)
  entries-some text h = placed-some 0 (slice_split separator text) (part_has_byte text h)

before_ok : {X : Type 0} (x : X) (rest : Result (List X) HostFault) (ys : List X) → before x rest ≡ Ok ys
    → (xs : List X) × (rest ≡ Ok xs) × (x ∷ xs ≡ ys)
before_ok x (Ok xs) ys h = (xs, refl, cc)
before_ok x (Err fault) ys h = absurd cc

one_ok : {X : Type 0} (r : Result X HostFault) (rest : List (Result X HostFault)) (ys : List X)
    → together (r ∷ rest) ≡ Ok ys → (x : X) × (xs : List X) × (r ≡ Ok x) × (together rest ≡ Ok xs) × (x ∷ xs ≡ ys)
one_ok (Ok x) rest ys h = let found = before_ok x (together rest) ys h in (x, found.0, refl, found.1, found.2)
one_ok (Err fault) rest ys h = absurd cc

-- what reading gives of entries holds of each item, and there are as many
pub together_are : {X : Type 0} (P : Entry → Type 0) (Q : X → Type 0) (read : Entry → Result X HostFault)
    → ((e : Entry) (x : X) → P e → read e ≡ Ok x → Q x) → (es : List Entry) (xs : List X) → AllByRecursion P es
    → together (map read es) ≡ Ok xs → AllByRecursion Q xs × (length xs ≡ length es)
together_are P Q read each [] xs all h =
    let none : [] ≡ xs = cc in subst (λ ys. AllByRecursion Q ys × (length ys ≡ 0)) none (tt, refl)
together_are P Q read each (e ∷ es) xs all h =
    let found = one_ok (read e) (map read es) xs h in
    let rest = together_are P Q read each es found.1 all.1 found.3 in
    subst (λ ys. AllByRecursion Q ys × (length ys ≡ suc (length es))) found.4
    ((each e found.0 all.0 found.2, rest.0), ap suc rest.1)
