-- The options that are sent are those that are read.
use Rattle.std.proofs.Common.{ℕ, ◌+◌, ◌-◌, ◌<◌, ◌≤◌, List, [], ◌∷◌, ◌++◌, Bool, true, false, ◌&&◌, not, Ok, Some, length, take, drop, get_or, eqb, ltb, ◌≡◌, refl, ap, ◌∙◌, append_assoc, arith, zero, suc, ne_eqb, eq-eqb}
use Rattle.std.proofs.Math.Numerals.{one-add}
use Rattle.std.specs.List.{list_all, suffix_len, position_or_len}
use Rattle.std.specs.Str.{IsUtf8}
use Rattle.std.proofs.lemmas.Str.{is_utf8-from_IsUtf8}
use Rattle.std.proofs.lemmas.Bool.{not-true}
use Rattle.std.proofs.lemmas.Bool.Decides.{nat_tests}
use Rattle.std.proofs.lemmas.Grind.{common_steps}
use Rattle.std.proofs.lemmas.List.{get_or-append-add, length-append}
use Rattle.std.proofs.lemmas.List.Folds.{list_all-append}
use Rattle.std.proofs.lemmas.List.Sums.{suffix_len_is}
use Rattle.std.proofs.Math.Seq.{take-append_seam, drop-append-add}
use Rattle.fnc_journal.specs.declared.limits.TheConstants.{LONGEST_OPTIONS}
use Rattle.fnc_journal.specs.Bounds.{is_option_byte, is_value_byte}
use Rattle.fnc_journal.specs.declared.names.Pair.{Pair}
use Rattle.fnc_agent_api.specs.Blanks.{is_blank, trimmed, without_leading, without_trailing}
use Rattle.fnc_agent_api.specs.Cuts.{before, after, lines_of}
use Rattle.fnc_agent_api.specs.Options.{pairs_of, pair_of, parts_of, named, options_of, then_pairs, with_pair, pair}
use Rattle.fnc_agent_api.specs.OptionLines.{is_name, is_value, is_sendable, option_lines}
use Rattle.fnc_agent_api.proofs.OptionLemmas.{parts_found}

both : (a b : Bool) → (a && b) ≡ true → (a ≡ true) × (b ≡ true)
both true b e = (refl, e)
both false b e = cc

-- what passes a test passes a weaker one
pub all_weaker : (p q : ℕ → Bool) → ((b : ℕ) → p b ≡ true → q b ≡ true) → (bs : List ℕ) → list_all p bs ≡ true
    → list_all q bs ≡ true
all_weaker p q weaker [] e = refl
all_weaker p q weaker (b ∷ bs) e =
    let parts = both (p b) (list_all p bs) e in
    rw (weaker b parts.0, all_weaker p q weaker bs parts.1) refl

at_all : (p : ℕ → Bool) (bs : List ℕ) (k : ℕ) → list_all p bs ≡ true → k < length bs → p (get_or bs k 0) ≡ true
at_all p [] k e l = absurd (omega arith)
at_all p (b ∷ bs) zero e l = (both (p b) (list_all p bs) e).0
at_all p (b ∷ bs) (suc k) e l = at_all p bs k (both (p b) (list_all p bs) e).1 (omega arith)

-- no byte of these is the separator
abbrev pub Lacks : ℕ → List ℕ → Type 0
Lacks c bs = list_all (λ b. not (eqb b c)) bs ≡ true

-- a line that holds no line feed stands whole
pub lines_of_line : (line rest : List ℕ) → Lacks 10 line → lines_of (line ++ 10 ∷ rest) ≡ line ∷ lines_of rest
lines_of_line [] rest lacks = refl
lines_of_line (b ∷ bs) rest lacks =
    let parts = both (not (eqb b 10)) (list_all (λ x. not (eqb x 10)) bs) lacks in
    rw (not-true (eqb b 10) parts.0, lines_of_line bs rest parts.1) refl

-- where the first separator stands
place : (c : ℕ) (front back : List ℕ) → Lacks c front
    → position_or_len (λ x. eqb x c) (front ++ c ∷ back) ≡ length front
place c [] back lacks = rw (eq-eqb c c refl) refl
place c (b ∷ bs) back lacks =
    let parts = both (not (eqb b c)) (list_all (λ x. not (eqb x c)) bs) lacks in
    rw (parts.0, place c bs back parts.1, one-add) refl

pub before_separator : (c : ℕ) (front back : List ℕ) → Lacks c front → before c (front ++ c ∷ back) ≡ front
before_separator c front back lacks = ap (λ n. take n (front ++ c ∷ back)) (place c front back lacks)
    ∙ take-append_seam front (c ∷ back)

pub after_separator : (c : ℕ) (front back : List ℕ) → Lacks c front → after c (front ++ c ∷ back) ≡ back
after_separator c front back lacks =
    ap (λ n. drop (n + 1) (front ++ c ∷ back)) (place c front back lacks) ∙ drop-append-add front (c ∷ back) 1

sub_self : (n : ℕ) → n - n ≡ 0
sub_self n = omega arith

whole : (bs : List ℕ) → take (length bs - 0) bs ≡ bs
whole bs = grind (arith, common_steps)

-- a line with no blank at its ends stands whole
trimmed_same : (b : ℕ) (bs : List ℕ) → is_blank b ≡ false → is_blank (get_or (b ∷ bs) (length (b ∷ bs) - 1) 0) ≡ false
    → trimmed (b ∷ bs) ≡ b ∷ bs
trimmed_same b bs first last =
    let front : without_leading (b ∷ bs) ≡ b ∷ bs = rw first refl in
    let none : suffix_len is_blank (b ∷ bs) ≡ 0 =
    suffix_len_is is_blank (b ∷ bs) (length (b ∷ bs)) 0 (omega arith) (λ k within l. absurd (omega arith)) (λ l. last)
    ∙ sub_self (length (b ∷ bs)) in
    ap without_trailing front ∙ ap (λ n. take (length (b ∷ bs) - n) (b ∷ bs)) none ∙ whole (b ∷ bs)

name_byte_not_blank : (b : ℕ) → is_option_byte b ≡ true → is_blank b ≡ false
name_byte_not_blank b e = grind (arith, nat_tests)

name_byte_not_equals : (b : ℕ) → is_option_byte b ≡ true → not (eqb b 61) ≡ true
name_byte_not_equals b e = grind (arith, nat_tests)

name_byte_not_feed : (b : ℕ) → is_option_byte b ≡ true → not (eqb b 10) ≡ true
name_byte_not_feed b e = grind (arith, nat_tests)

value_byte_not_feed : (b : ℕ) → is_value_byte b ≡ true → not (eqb b 10) ≡ true
value_byte_not_feed b e = grind (arith, nat_tests)

value_byte_not_blank : (b : ℕ) → is_value_byte b ≡ true → not (eqb b 32) ≡ true → is_blank b ≡ false
value_byte_not_blank b e f = grind (arith, nat_tests)

-- a line of an option does not end with a blank
last_not_blank : (name value : List ℕ) → is_value value ≡ true
    → is_blank (get_or (name ++ 61 ∷ value) (length (name ++ 61 ∷ value) - 1) 0) ≡ false
last_not_blank name [] e =
    let at : length (name ++ 61 ∷ []) - 1 ≡ length name + 0 = omega (arith, length-append name (61 ∷ [])) in
    rw (at, get_or-append-add name (61 ∷ []) 0 0) refl
last_not_blank name (v ∷ vs) e =
    let parts = both (list_all is_value_byte (v ∷ vs)) (not (eqb (get_or (v ∷ vs) (length (v ∷ vs) - 1) 0) 32)) e in
    let last : is_blank (get_or (v ∷ vs) (length (v ∷ vs) - 1) 0) ≡ false =
    value_byte_not_blank (get_or (v ∷ vs) (length (v ∷ vs) - 1) 0)
    (at_all is_value_byte (v ∷ vs) (length (v ∷ vs) - 1) parts.0 (omega arith)) parts.1 in
    let at : length (name ++ 61 ∷ (v ∷ vs)) - 1 ≡ length name + suc (length (v ∷ vs) - 1) =
    omega (arith, length-append name (61 ∷ (v ∷ vs))) in
    ap (λ k. is_blank (get_or (name ++ 61 ∷ (v ∷ vs)) k 0)) at
    ∙ ap is_blank (get_or-append-add name (61 ∷ (v ∷ vs)) (suc (length (v ∷ vs) - 1)) 0)
    ∙ last

-- the parts of a line that is not trimmed further
parts_read : (name value : List ℕ) → list_all is_option_byte name ≡ true
    → parts_of (name ++ 61 ∷ value) ≡ Some (pair name value)
parts_read name value n =
    let lacks = all_weaker is_option_byte (λ b. not (eqb b 61)) name_byte_not_equals name n in
    parts_found (name ++ 61 ∷ value) (omega (arith, place 61 name value lacks, length-append name (61 ∷ value)))
    ∙ ap (λ x. Some (pair x (after 61 (name ++ 61 ∷ value)))) (before_separator 61 name value lacks)
    ∙ ap (λ x. Some (pair name x)) (after_separator 61 name value lacks)

named_same : (number b : ℕ) (bs value : List ℕ) → named number (Some (pair (b ∷ bs) value))
    ≡ Ok (Some (pair (b ∷ bs) value))
named_same number b bs value = let filled : eqb (length (b ∷ bs)) 0 ≡ false =
    ne_eqb (length (b ∷ bs)) 0 (λ e. absurd (omega arith)) in rw filled refl

-- the line of an option says that option
reads_pair : (number : ℕ) (name value : List ℕ) → is_name name ≡ true → is_value value ≡ true
    → pair_of number (trimmed (name ++ 61 ∷ value)) ≡ Ok (Some (pair name value))
reads_pair number [] value n v = cc
reads_pair number (b ∷ bs) value n v =
    let parts = both (not (eqb b 35)) (list_all is_option_byte (b ∷ bs)) n in
    let first = (both (is_option_byte b) (list_all is_option_byte bs) parts.1).0 in
    ap (pair_of number) (trimmed_same b (bs ++ 61 ∷ value) (name_byte_not_blank b first)
    (last_not_blank (b ∷ bs) value v))
    ∙ rw (not-true (eqb b 35) parts.0) (ap (named number) (parts_read (b ∷ bs) value parts.1)
    ∙ named_same number b bs value)

line_lacks_feed : (name value : List ℕ) → is_name name ≡ true → is_value value ≡ true → Lacks 10 (name ++ 61 ∷ value)
line_lacks_feed [] value n v = cc
line_lacks_feed (b ∷ bs) value n v =
    let in_name = all_weaker is_option_byte (λ x. not (eqb x 10)) name_byte_not_feed (b ∷ bs)
    (both (not (eqb b 35)) (list_all is_option_byte (b ∷ bs)) n).1 in
    let in_value = all_weaker is_value_byte (λ x. not (eqb x 10)) value_byte_not_feed value
    (both (list_all is_value_byte value) (not (eqb (get_or value (length value - 1) 0) 32)) v).0 in
    list_all-append (λ x. not (eqb x 10)) (b ∷ bs) (61 ∷ value) ∙ rw (in_name, in_value) refl

regrouped : (name value rest : List ℕ) → (name ++ 61 ∷ (value ++ 10 ∷ [])) ++ rest ≡ (name ++ 61 ∷ value) ++ 10 ∷ rest
regrouped name value rest = simp append_assoc

reads_pairs : (number : ℕ) (pairs : List Pair) → list_all is_sendable pairs ≡ true
    → pairs_of number (lines_of (option_lines pairs)) ≡ Ok pairs
reads_pairs number [] e = refl
reads_pairs number (p ∷ ps) e =
    let parts = both (is_sendable p) (list_all is_sendable ps) e in
    let can = both (is_name p.name) (is_value p.value) parts.0 in
    ap (λ text. pairs_of number (lines_of text)) (regrouped p.name p.value (option_lines ps))
    ∙ ap (pairs_of number) (lines_of_line (p.name ++ 61 ∷ p.value) (option_lines ps)
    (line_lacks_feed p.name p.value can.0 can.1))
    ∙ ap (λ said. then_pairs said (pairs_of (number + 1) (lines_of (option_lines ps))))
    (reads_pair number p.name p.value can.0 can.1)
    ∙ ap (with_pair (Some p)) (reads_pairs (number + 1) ps parts.1)

pub reads_back : (pairs : List Pair) (text : List ℕ) → IsUtf8 text → text ≡ option_lines pairs
    → list_all is_sendable pairs ≡ true → length text ≤ LONGEST_OPTIONS → options_of text ≡ Ok pairs
reads_back pairs text u same can short =
    let within : ltb LONGEST_OPTIONS (length text) ≡ false = grind (arith, nat_tests) in
    rw (within, is_utf8-from_IsUtf8 text u) (ap (λ t. pairs_of 1 (lines_of t)) same ∙ reads_pairs 1 pairs can)
