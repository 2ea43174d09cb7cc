-- A plug that was read can be written, so a switch that gains it stays one.
use Rattle.std.proofs.Common.{ℕ, ◌<◌, ◌≤◌, List, [], ◌∷◌, ◌++◌, Bool, true, false, cond, ◌&&◌, Option, Some, None, length, ◌≡◌, refl, ap, ◌∙◌, subst, sym, arith}
use Rattle.std.specs.Prelude.{nat_le, IsTrue}
use Rattle.std.specs.List.{list_all}
use Rattle.std.proofs.lemmas.Bool.{and_from, leb-true, le-leb, and_parts}
use Rattle.std.proofs.lemmas.List.{length-append}
use Rattle.std.proofs.lemmas.List.Folds.{list_all-append}
use Rattle.fnc_text.specs.Digits.{at_most, digits_value, is_number}
use Rattle.fnc_agent_api.specs.Cuts.{before, after}
use Rattle.fnc_switch.specs.declared.plug.Plug.{Plug}
use Rattle.fnc_switch.specs.declared.plug.TheConstants.{MOST_FAILURES, MOST_PLUGS}
use Rattle.fnc_switch.specs.Plugs.{failures_of, has_leading_zero, is_alias, is_name, is_plug, plug, plug_of, state_of, tested}
use Rattle.fnc_switch.specs.Switches.{is_switch}

test_passed : (test : List ℕ → Bool) (text read : List ℕ) (b : Bool) → test text ≡ b
    → cond b (Some text) None ≡ Some read → test read ≡ true
test_passed test text read true t e = let same : text ≡ read = cc in ap test (sym same) ∙ t
test_passed test text read false t e = cc

most_within : (value n : ℕ) (b : Bool) → nat_le value MOST_FAILURES ≡ b → cond b (Some value) None ≡ Some n
    → n ≤ MOST_FAILURES
most_within value n true l e =
    let same : value ≡ n = cc in subst (λ m. m ≤ MOST_FAILURES) same (leb-true value MOST_FAILURES l)
most_within value n false l e = cc

failures_within : (has_zero are_digits : Bool) (value n : ℕ)
    → cond has_zero None (cond are_digits (at_most MOST_FAILURES value) None) ≡ Some n → n ≤ MOST_FAILURES
failures_within true are_digits value n e = cc
failures_within false false value n e = cc
failures_within false true value n e = most_within value n (nat_le value MOST_FAILURES) refl e

-- the parts of a plug
name_read : (name alias : Option (List ℕ)) (on : Option Bool) (failures : Option ℕ) (p : Plug)
    → plug name alias on failures ≡ Some p → name ≡ Some p.name
name_read (Some name) (Some alias) (Some on) (Some failures) p e = cc
name_read None alias on failures p e = cc
name_read (Some name) None on failures p e = cc
name_read (Some name) (Some alias) None failures p e = cc
name_read (Some name) (Some alias) (Some on) None p e = cc

alias_read : (name alias : Option (List ℕ)) (on : Option Bool) (failures : Option ℕ) (p : Plug)
    → plug name alias on failures ≡ Some p → alias ≡ Some p.alias
alias_read (Some name) (Some alias) (Some on) (Some failures) p e = cc
alias_read None alias on failures p e = cc
alias_read (Some name) None on failures p e = cc
alias_read (Some name) (Some alias) None failures p e = cc
alias_read (Some name) (Some alias) (Some on) None p e = cc

failures_read : (name alias : Option (List ℕ)) (on : Option Bool) (failures : Option ℕ) (p : Plug)
    → plug name alias on failures ≡ Some p → failures ≡ Some p.failures
failures_read (Some name) (Some alias) (Some on) (Some failures) p e = cc
failures_read None alias on failures p e = cc
failures_read (Some name) None on failures p e = cc
failures_read (Some name) (Some alias) None failures p e = cc
failures_read (Some name) (Some alias) (Some on) None p e = cc

-- what was read can be written
read_is_plug : (line : List ℕ) (p : Plug) → plug_of line ≡ Some p → is_plug p ≡ true
read_is_plug line p e =
    let first = before 44 line in
    let second = before 44 (after 44 line) in
    let word = before 44 (after 44 (after 44 line)) in
    let digits = after 44 (after 44 (after 44 line)) in
    let n = name_read (tested is_name first) (tested is_alias second) (state_of word) (failures_of digits) p e in
    let a = alias_read (tested is_name first) (tested is_alias second) (state_of word) (failures_of digits) p e in
    let f = failures_read (tested is_name first) (tested is_alias second) (state_of word) (failures_of digits) p e in
    and_from (is_name p.name && is_alias p.alias) (nat_le p.failures MOST_FAILURES)
    (and_from (is_name p.name) (is_alias p.alias) (test_passed is_name first p.name (is_name first) refl n)
    (test_passed is_alias second p.alias (is_alias second) refl a))
    (le-leb p.failures MOST_FAILURES
    (failures_within (has_leading_zero digits) (is_number digits) (digits_value digits) p.failures f))

pub pushed_kept : (plugs new : List Plug) (line : List ℕ) (p : Plug) (is_pushed : Bool)
    → new ≡ cond is_pushed (plugs ++ p ∷ []) plugs → length plugs < MOST_PLUGS → plug_of line ≡ Some p
    → IsTrue (is_switch plugs) → IsTrue (is_switch new)
pushed_kept plugs new line p false same l e is = rw same is
pushed_kept plugs new line p true same l e is =
    let parts = and_parts (nat_le (length plugs) MOST_PLUGS) (list_all is_plug plugs) is in
    let longer : length (plugs ++ p ∷ []) ≤ MOST_PLUGS = omega (arith, length-append plugs (p ∷ [])) in
    rw same (and_from (nat_le (length (plugs ++ p ∷ [])) MOST_PLUGS) (list_all is_plug (plugs ++ p ∷ []))
    (le-leb (length (plugs ++ p ∷ [])) MOST_PLUGS longer)
    (list_all-append is_plug plugs (p ∷ []) ∙ rw (parts.1, read_is_plug line p e) refl))
