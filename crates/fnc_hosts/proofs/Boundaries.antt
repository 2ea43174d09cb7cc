-- A text may be cut before and after a separator.
use Rattle.std.proofs.Common.{
  ◌≡◌,
  ℕ,
  zero,
  suc,
  ◌+◌,
  ◌<◌,
  ◌≤◌,
  Bool,
  true,
  List,
  length,
  get_or,
  drop,
  ⊎_elim,
  arith,
  subst,
}
use Rattle.std.specs.Prelude.{not}
use Rattle.std.specs.List.{prefix_len, position_or_len}
use Rattle.std.specs.Str.{IsUtf8, IsCharBoundary}
use Rattle.std.proofs.Math.Numerals.{add-one}
use Rattle.std.proofs.lemmas.Bool.{cases_lt}
use Rattle.std.proofs.lemmas.Bool.Decides.{nat_tests}
use Rattle.fnc_hosts.specs.declared.entry.Form.{Form}
use Rattle.fnc_hosts.specs.Entries.{separates}
use Rattle.std.proofs.lemmas.List.{get_or-drop, length-drop}
use Rattle.std.proofs.lemmas.List.Sums.{passes_at_first, prefix_len_passes, prefix_len-le-length}
use Rattle.std.proofs.lemmas.Str.{
  IsCharBoundary-start,
  IsCharBoundary-end,
  IsCharBoundary-before_ascii,
  IsCharBoundary-after_ascii,
}

module _ (separator : ℕ → Bool) (ascii : (b : ℕ) → separator b ≡ true → b < 128) (text : List ℕ)
    (utf8 : IsUtf8 text) where
  past : (k : ℕ) → k ≤ prefix_len separator text → IsCharBoundary text k
  past zero h = IsCharBoundary-start text utf8
  past (suc k) h =
      let within = prefix_len-le-length separator text in
      let before = ascii (get_or text k 0) (prefix_len_passes separator text k 0 (omega arith)) in
      subst (IsCharBoundary text) (add-one k) (IsCharBoundary-after_ascii text k utf8 (omega arith) before)

  -- past the separators that it begins with
  pub IsCharBoundary-past_separators : (k : ℕ) → k ≡ prefix_len separator text → IsCharBoundary text k
  IsCharBoundary-past_separators k at = past k (omega arith)

  -- at the next separator, or at the end
  pub IsCharBoundary-at_separator : (k n : ℕ) → k ≤ length text → n ≡ position_or_len separator (drop k text)
      → IsCharBoundary text (k + n)
  IsCharBoundary-at_separator k n inside width =
      let within = prefix_len-le-length (λ b. not (separator b)) (drop k text) in
      let rest = length-drop k text in
      ⊎_elim
      (λ more.
      let at = get_or-drop k text n 0 in
      let passes = passes_at_first separator (drop k text) 0 (omega arith) in
      let small = ascii (get_or (drop k text) n 0) (rw width passes) in
      IsCharBoundary-before_ascii text (k + n) more (omega arith))
      (λ all.
      let end : length text ≡ k + n = omega arith in
      subst (IsCharBoundary text) end (IsCharBoundary-end text))
      (cases_lt (k + n) (length text))

-- the separators of a text of hosts are ASCII

pub separators_ascii : (form : Form) (b : ℕ) → separates form b ≡ true → b < 128
separators_ascii Form.List b h = grind (arith, nat_tests)
separators_ascii Form.Map b h = grind (arith, nat_tests)
