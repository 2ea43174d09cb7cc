-- A text may be cut where its leading blanks end and where its trailing blanks begin.
use Rattle.std.proofs.Common.{ℕ, ◌-◌, ◌<◌, ◌≤◌, List, true, length, get_or, reverse, ◌≡◌, arith, zero, suc, subst}
use Rattle.std.proofs.lemmas.Bool.Decides.{nat_tests}
use Rattle.std.specs.List.{prefix_len, suffix_len}
use Rattle.std.specs.Str.{IsUtf8, IsCharBoundary}
use Rattle.std.proofs.lemmas.Str.{IsCharBoundary-start, IsCharBoundary-end, IsCharBoundary-before_ascii, IsCharBoundary-after_ascii}
use Rattle.std.proofs.lemmas.List.Sums.{prefix_len_passes, prefix_len-le-length, suffix_len-le-length}
use Rattle.std.proofs.lemmas.List.{get_or-reverse}
use Rattle.fnc_agent_api.specs.Blanks.{is_blank}

-- a blank is ASCII
blank_is_ascii : (b : ℕ) → is_blank b ≡ true → b < 128
blank_is_ascii b e = grind (arith, nat_tests)

pub leading_boundary : (bs : List ℕ) (n : ℕ) → IsUtf8 bs → n ≡ prefix_len is_blank bs → IsCharBoundary bs n
leading_boundary bs zero u e = IsCharBoundary-start bs u
leading_boundary bs (suc k) u e =
    let inside : k < length bs = omega (arith, prefix_len-le-length is_blank bs) in
    let blank = prefix_len_passes is_blank bs k 0 (omega arith) in
    subst (λ i. IsCharBoundary bs i) (omega arith)
    (IsCharBoundary-after_ascii bs k u inside (blank_is_ascii (get_or bs k 0) blank))

pub trailing_boundary : (bs : List ℕ) (n : ℕ) → n ≡ suffix_len is_blank bs → IsCharBoundary bs (length bs - n)
trailing_boundary bs zero e = subst (λ i. IsCharBoundary bs i) (omega arith) (IsCharBoundary-end bs)
trailing_boundary bs (suc k) e =
    let within : suc k ≤ length bs = omega (arith, suffix_len-le-length is_blank bs) in
    let blank = prefix_len_passes is_blank (reverse bs) k 0 (omega arith) in
    let same : length bs - 1 - k ≡ length bs - suc k = omega arith in
    let there = rw (get_or-reverse bs k 0 (omega arith), same) at blank in
    IsCharBoundary-before_ascii bs (length bs - suc k) (omega arith)
    (blank_is_ascii (get_or bs (length bs - suc k) 0) there)
