-- The text of a switch reads back as this switch.
use Rattle.std.proofs.Common.{ℕ, ◌+◌, ◌<◌, ◌≤◌, ◌^◌, List, [], ◌∷◌, ◌++◌, Bool, true, false, ◌&&◌, Option, Ok, Some, lit<, length, get_or, eqb, decimal, ◌≡◌, refl, ap, ◌∙◌, append_assoc, arith, zero, suc, rules}
use Rattle.std.specs.Prelude.{not, nat_lt, nat_le, IsTrue}
use Rattle.std.specs.Char.{is_ascii_digit}
use Rattle.std.specs.List.{list_all}
use Rattle.std.specs.Str.{is_utf8}
use Rattle.std.proofs.lemmas.Bool.{and_parts, le-leb, leb-true, le-ltb, lt-ltb}
use Rattle.std.proofs.lemmas.Bool.Decides.{nat_tests}
use Rattle.std.proofs.lemmas.Fmt.{decimal_digit, decimal_nonempty, digits_decimal, digits_value-decimal, first_decimal, length-decimal-le}
use Rattle.std.proofs.lemmas.List.Folds.{list_all-append}
use Rattle.std.proofs.lemmas.Str.Parse.{IsNumeralModel, numerals_by_weight}
use Rattle.fnc_journal.specs.declared.limits.TheConstants.{LONGEST_NAME}
use Rattle.fnc_text.specs.Digits.{digits_value, number}
use Rattle.fnc_agent_api.specs.Cuts.{before, after, lines_of}
use Rattle.fnc_agent_api.proofs.ReadsBack.{Lacks, all_weaker, after_separator, before_separator, lines_of_line}
use Rattle.fnc_switch.specs.declared.plug.Plug.{Plug}
use Rattle.fnc_switch.specs.declared.plug.TheConstants.{MOST_FAILURES, MOST_PLUGS}
use Rattle.fnc_switch.specs.Plugs.{failures_of, has_leading_zero, is_alias, is_name, is_plug, is_plug_byte, plug, plug_line, plug_of, state_of, state_word, tested}
use Rattle.fnc_switch.specs.Switches.{before_plugs, is_switch, plug_at, plugs_from, switch_of, text_of}

-- the bytes of a name, of a word and of a number are neither commas nor line feeds
plug_byte_no_comma : (b : ℕ) → is_plug_byte b ≡ true → not (eqb b 44) ≡ true
plug_byte_no_comma b e = grind (arith, nat_tests)

plug_byte_no_feed : (b : ℕ) → is_plug_byte b ≡ true → not (eqb b 10) ≡ true
plug_byte_no_feed b e = grind (arith, nat_tests)

digit_no_feed : (b : ℕ) → is_ascii_digit b ≡ true → not (eqb b 10) ≡ true
digit_no_feed b e = grind (arith, nat_tests)

alias_bytes : (text : List ℕ) → is_alias text ≡ true → list_all is_plug_byte text ≡ true
alias_bytes text e =
    (and_parts (nat_le (length text) LONGEST_NAME) (list_all is_plug_byte text)
    (and_parts (nat_le (length text) LONGEST_NAME && list_all is_plug_byte text) (is_utf8 text) e).0).1

alias_no_comma : (text : List ℕ) → is_alias text ≡ true → Lacks 44 text
alias_no_comma text e = all_weaker is_plug_byte (λ b. not (eqb b 44)) plug_byte_no_comma text (alias_bytes text e)

alias_no_feed : (text : List ℕ) → is_alias text ≡ true → Lacks 10 text
alias_no_feed text e = all_weaker is_plug_byte (λ b. not (eqb b 10)) plug_byte_no_feed text (alias_bytes text e)

word_no_comma : (on : Bool) → Lacks 44 (state_word on)
word_no_comma true = refl
word_no_comma false = refl

word_no_feed : (on : Bool) → Lacks 10 (state_word on)
word_no_feed true = refl
word_no_feed false = refl

word_back : (on : Bool) → state_of (state_word on) ≡ Some on
word_back true = refl
word_back false = refl

-- decimal digits
own : IsNumeralModel (λ ds. list_all is_ascii_digit ds ≡ true) digits_value
own = numerals_by_weight _ (search rules) digits_value (search rules)

number_no_feed : (n : ℕ) → n < 2 ^ 64 → Lacks 10 (decimal n)
number_no_feed n h = all_weaker is_ascii_digit (λ b. not (eqb b 10)) digit_no_feed (decimal n) (digits_decimal own n h)

number_back : (most n : ℕ) → n ≤ most → n < 2 ^ 64 → number most (decimal n) ≡ Some n
number_back most n l h =
    rw (
      lt-ltb 0 (length (decimal n)) (decimal_nonempty n h),
      le-leb (length (decimal n)) 20 (length-decimal-le 20 n (omega arith) (omega (arith, h)) h),
      digits_decimal own n h,
      digits_value-decimal own n h,
      le-leb n most l,
    ) refl

-- a number is written without a leading zero
no_leading_zero : (n : ℕ) → n < 2 ^ 64 → has_leading_zero (decimal n) ≡ false
no_leading_zero zero h = rw (decimal_digit 0 (lit< tt)) refl
no_leading_zero (suc n) h =
    let first : 48 < get_or (decimal (suc n)) 0 0 = first_decimal (suc n) (omega arith) h in
    grind (arith, nat_tests, first)

failures_back : (n : ℕ) → n ≤ MOST_FAILURES → failures_of (decimal n) ≡ Some n
failures_back n l =
    let h : n < 2 ^ 64 = omega arith in
    rw (no_leading_zero n h) (number_back MOST_FAILURES n l h)

-- the line of a plug without its line feed
abbrev line : Plug → List ℕ
line p = p.name ++ 44 ∷ (p.alias ++ 44 ∷ (state_word p.on ++ 44 ∷ decimal p.failures))

line_ended : (p : Plug) (rest : List ℕ) → plug_line p ++ rest ≡ line p ++ 10 ∷ rest
line_ended p rest = simp append_assoc

lacks_both : (c : ℕ) (xs ys : List ℕ) → Lacks c xs → Lacks c ys → Lacks c (xs ++ ys)
lacks_both c xs ys a b = list_all-append (λ x. not (eqb x c)) xs ys ∙ rw (a, b) refl

name_of_plug : (p : Plug) → is_plug p ≡ true → is_name p.name ≡ true
name_of_plug p e =
    (and_parts (is_name p.name) (is_alias p.alias)
    (and_parts (is_name p.name && is_alias p.alias) (nat_le p.failures MOST_FAILURES) e).0).0

name_is_alias : (text : List ℕ) → is_name text ≡ true → is_alias text ≡ true
name_is_alias text e = (and_parts (nat_lt 0 (length text)) (is_alias text) e).1

alias_of_plug : (p : Plug) → is_plug p ≡ true → is_alias p.alias ≡ true
alias_of_plug p e =
    (and_parts (is_name p.name) (is_alias p.alias)
    (and_parts (is_name p.name && is_alias p.alias) (nat_le p.failures MOST_FAILURES) e).0).1

failures_of_plug : (p : Plug) → is_plug p ≡ true → p.failures ≤ MOST_FAILURES
failures_of_plug p e = leb-true p.failures MOST_FAILURES
    (and_parts (is_name p.name && is_alias p.alias) (nat_le p.failures MOST_FAILURES) e).1

line_no_feed : (p : Plug) → is_plug p ≡ true → Lacks 10 (line p)
line_no_feed p e =
    let few : p.failures < 2 ^ 64 = omega (arith, failures_of_plug p e) in
    lacks_both 10 p.name (44 ∷ (p.alias ++ 44 ∷ (state_word p.on ++ 44 ∷ decimal p.failures)))
    (alias_no_feed p.name (name_is_alias p.name (name_of_plug p e)))
    (lacks_both 10 p.alias (44 ∷ (state_word p.on ++ 44 ∷ decimal p.failures))
    (alias_no_feed p.alias (alias_of_plug p e))
    (lacks_both 10 (state_word p.on) (44 ∷ decimal p.failures) (word_no_feed p.on) (number_no_feed p.failures few)))

joined : (p : Plug) (name alias : Option (List ℕ)) (on : Option Bool) (failures : Option ℕ) → name ≡ Some p.name
    → alias ≡ Some p.alias → on ≡ Some p.on → failures ≡ Some p.failures → plug name alias on failures ≡ Some p
joined p name alias on failures n a o f = rw (n, a, o, f) refl

plug_back : (p : Plug) → is_plug p ≡ true → plug_of (line p) ≡ Some p
plug_back p e =
    let last = state_word p.on ++ 44 ∷ decimal p.failures in
    let rest = p.alias ++ 44 ∷ last in
    let n = name_of_plug p e in
    let a = alias_of_plug p e in
    let no_comma = alias_no_comma p.name (name_is_alias p.name n) in
    let first : after 44 (line p) ≡ rest = after_separator 44 p.name rest no_comma in
    let second : after 44 rest ≡ last = after_separator 44 p.alias last (alias_no_comma p.alias a) in
    let third : after 44 last ≡ decimal p.failures =
    after_separator 44 (state_word p.on) (decimal p.failures) (word_no_comma p.on) in
    joined p (tested is_name (before 44 (line p))) (tested is_alias (before 44 (after 44 (line p))))
    (state_of (before 44 (after 44 (after 44 (line p))))) (failures_of (after 44 (after 44 (after 44 (line p)))))
    (ap (tested is_name) (before_separator 44 p.name rest no_comma) ∙ rw n refl)
    (ap (λ r. tested is_alias (before 44 r)) first
    ∙ ap (tested is_alias) (before_separator 44 p.alias last (alias_no_comma p.alias a)) ∙ rw a refl)
    (ap (λ r. state_of (before 44 (after 44 r))) first ∙ ap (λ r. state_of (before 44 r)) second
    ∙ ap state_of (before_separator 44 (state_word p.on) (decimal p.failures) (word_no_comma p.on))
    ∙ word_back p.on)
    (ap (λ r. failures_of (after 44 (after 44 r))) first ∙ ap (λ r. failures_of (after 44 r)) second
    ∙ ap failures_of third ∙ failures_back p.failures (failures_of_plug p e))

plug_at_back : (number : ℕ) (p : Plug) → number ≤ MOST_PLUGS → is_plug p ≡ true → plug_at number (line p) ≡ Some p
plug_at_back number p l e = rw (le-ltb MOST_PLUGS number l) (plug_back p e)

plugs_back : (number : ℕ) (ps : List Plug) → number + length ps ≤ MOST_PLUGS + 1 → list_all is_plug ps ≡ true
    → plugs_from number (lines_of (text_of ps)) ≡ Ok ps
plugs_back number [] l e = refl
plugs_back number (p ∷ ps) l e =
    let parts = and_parts (is_plug p) (list_all is_plug ps) e in
    ap (λ t. plugs_from number (lines_of t)) (line_ended p (text_of ps))
    ∙ ap (plugs_from number) (lines_of_line (line p) (text_of ps) (line_no_feed p parts.0))
    ∙ ap (λ said. before_plugs number said (plugs_from (number + 1) (lines_of (text_of ps))))
    (plug_at_back number p (omega arith) parts.0)
    ∙ ap (before_plugs number (Some p)) (plugs_back (number + 1) ps (omega arith) parts.1)

pub reads_back : (plugs : List Plug) (text : List ℕ) → IsTrue (is_switch plugs) → text ≡ text_of plugs
    → switch_of text ≡ Ok plugs
reads_back plugs text e same =
    let parts = and_parts (nat_le (length plugs) MOST_PLUGS) (list_all is_plug plugs) e in
    ap switch_of same ∙ plugs_back 1 plugs (omega (arith, leb-true (length plugs) MOST_PLUGS parts.0)) parts.1
