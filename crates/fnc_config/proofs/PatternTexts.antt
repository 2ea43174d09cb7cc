-- A text that is compiled is a pattern, and one that is refused for its syntax is none.
use Rattle.std.proofs.Common.{
  ℕ,
  List,
  true,
  false,
  ◌≡◌,
  ◌≢◌,
  ◌≤◌,
  ◌<◌,
  ◌∙◌,
  ap,
  refl,
  subst,
  None,
  Some,
  Option,
  IsSomeAnd,
  ⊎_elim,
  ◌&&◌,
  get_or,
  sym,
}
use Rattle.std.specs.Prelude.{IfSome, length, is_some}
use Rattle.std.proofs.lemmas.Bool.{le-leb, lt-leb}
use Rattle.regex.specs.Patterns.{find_str, Config, Re, Reads, Refuses, SameCaptures, default_config}
use Rattle.regex_hir.specs.Meaning.{meaning}
use Rattle.regex_hir.specs.declared.hir.Hir.{Hir}
use Rattle.regex_syntax.specs.Brackets.{Nested}
use Rattle.regex_syntax.specs.Grammar.{Names, group_count}
use Rattle.regex_syntax.specs.declared.error.ErrorKind.{ErrorKind}
use Rattle.regex_syntax.specs.declared.error.ErrorKind.TheVariants.{OutOfMemory}
use Rattle.regex.proofs.ForCallers.{is_match_alike}
use Rattle.fnc_config.specs.Patterns.{finds, is_found, is_pattern, is_reading, read_pattern}

reading-is : (o : Option (Nested Re × Names)) (hir : Hir) (names : Names) →
    IsSomeAnd o (λ (re, found). (re.depth ≤ default_config.nest_limit) × SameCaptures (meaning hir) re.value
    × (names ≡ found) × (group_count (meaning hir) ≤ length names)) → is_reading o ≡ true
reading-is None hir names h = absurd h
reading-is (Some p) hir names h = le-leb p.0.depth default_config.nest_limit h.0

pub read-is : (text : List ℕ) (hir : Hir) (names : Names) → Reads default_config text hir names → is_pattern text ≡ true
unfolding Reads
read-is text hir names h = reading-is (read_pattern text) hir names h

pub compiled-is : (config : Config) (source text : List ℕ) (hir : Hir) (names : Names) → config ≡ default_config →
    source ≡ text → Reads config source hir names → is_pattern text ≡ true
compiled-is config source text hir names p q h =
    read-is text hir names
    (subst (λ t. Reads default_config t hir names) q (subst (λ k. Reads k source hir names) p h))

too-deep : (o : Option (Nested Re × Names)) → IfSome o (λ (re, found). default_config.nest_limit < re.depth) →
    is_reading o ≡ false
too-deep None h = refl
too-deep (Some p) h = lt-leb p.0.depth default_config.nest_limit h

pub refused-is-none : (text : List ℕ) (kind : ErrorKind) → Refuses default_config text kind → kind ≢ OutOfMemory →
    is_pattern text ≡ false
unfolding Refuses
refused-is-none text kind h other =
    ⊎_elim
    (λ memory. absurd (other memory))
    (λ rest. ⊎_elim (λ none. ap is_reading none) (λ deep. too-deep (read_pattern text) deep.1) rest)
    h

-- a text that is no pattern is found nowhere
pub none-found : (o : Option (Nested Re × Names)) (hay : List ℕ) → is_reading o ≡ false → is_found o hay ≡ false
none-found None hay h = refl
none-found (Some p) hay h = ap (λ b. b && is_some (find_str p.0.value hay 0)) h

found-by : (o : Option (Nested Re × Names)) (hir : Hir) (names : Names) (hay : List ℕ) → ((k : ℕ) →
    get_or hay k 0 < 256) →
    IsSomeAnd o (λ (re, found). (re.depth ≤ default_config.nest_limit) × SameCaptures (meaning hir) re.value
    × (names ≡ found) × (group_count (meaning hir) ≤ length names)) →
    is_some (find_str (meaning hir) hay 0) ≡ is_found o hay
found-by None hir names hay bytes h = absurd h
found-by (Some p) hir names hay bytes h =
    is_match_alike h.1 hay bytes true 0
    ∙ sym (ap (λ b. b && is_some (find_str p.0.value hay 0)) (le-leb p.0.depth default_config.nest_limit h.0))

found-read : (text : List ℕ) (hir : Hir) (names : Names) (hay : List ℕ) → ((k : ℕ) → get_or hay k 0 < 256) →
    Reads default_config text hir names → is_some (find_str (meaning hir) hay 0) ≡ finds text hay
unfolding Reads
found-read text hir names hay bytes h = found-by (read_pattern text) hir names hay bytes h

-- what is compiled is found where its text is
pub found-compiled : (config : Config) (source text : List ℕ) (hir : Hir) (names : Names) (hay : List ℕ) →
    ((k : ℕ) → get_or hay k 0 < 256) → config ≡ default_config → source ≡ text → Reads config source hir names →
    is_some (find_str (meaning hir) hay 0) ≡ finds text hay
found-compiled config source text hir names hay bytes p q h =
    found-read text hir names hay bytes
    (subst (λ t. Reads default_config t hir names) q (subst (λ k. Reads k source hir names) p h))
