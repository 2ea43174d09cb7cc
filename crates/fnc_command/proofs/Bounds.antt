-- What holds of each word that is read.
use Rattle.std.proofs.Common.{◌≡◌, ℕ, ◌*◌, ◌+◌, ◌≤◌, ◌==◌, List, [], ◌∷◌, Bool, true, false, cond, Option, Some, None, Result, Ok, Err, IfOk, IfSome, IsTrue, refl, arith, drop, length}
use Rattle.std.specs.Prelude.{ok_or, bytes_eq, codes, nat_le, nat_lt, take_while}
use Rattle.std.specs.List.{count_by, list_all}
use Rattle.std.specs.Char.{is_ascii_digit}
use Rattle.std.proofs.lemmas.Bool.{ltb-false}
use Rattle.std.proofs.lemmas.Bool.Decides.{nat_tests}
use Rattle.std.proofs.lemmas.List.Splits.{length-slice_split}
use Rattle.fnc_journal.specs.declared.limits.TheConstants.{DAY}
use Rattle.fnc_journal.specs.declared.cause.Cause.{Cause}
use Rattle.fnc_journal.specs.declared.entry.Kind.{Kind}
use Rattle.fnc_journal.specs.declared.entry.LevelTarget.{LevelTarget}
use Rattle.fnc_text.specs.declared.duration.DurationFault.{DurationFault}
use Rattle.fnc_text.specs.Digits.{number, is_number, digits_value, at_most}
use Rattle.fnc_text.specs.Durations.{duration, counted, within_a_day, unit, after_digits}
use Rattle.fnc_journal.specs.Names.{is_name}
use Rattle.fnc_command.specs.Answers.{and_then}
use Rattle.fnc_command.specs.Fields.{passing, bytes_of, text_of, name_of, agent_of, is_agent_name, number_of, action, action_of}
use Rattle.fnc_command.specs.Levels.{is_marked, is_pattern, pattern_of, target_of, comma_parts, all_names, devices_of}
use Rattle.fnc_command.specs.Asks.{at_least_one}
use Rattle.fnc_command.specs.Proper.{AreNamed, IsAskable, IsProperTarget}
use Rattle.fnc_command.proofs.Readings.{each, any, of_one}

-- what passed a test passes it
pub passed : {X : Type 0} (Q : X → Type 0) (cause : Cause) (passes : Bool) (x : X) → (passes ≡ true → Q x)
    → IfOk (passing cause passes x) Q
passed Q cause true x h = h refl
passed Q cause false x h = tt

pub name : (word : List ℕ) → IfOk (name_of word) (λ t. IsTrue (is_name t))
name word =
    each (λ t. Unit {0}) (λ t. IsTrue (is_name t)) (text_of word) (λ t. passing Cause.BadName (is_name t) t)
    (any (text_of word))
    (λ t u. passed (λ t. IsTrue (is_name t)) Cause.BadName (is_name t) t (λ e. e))

pub agent : (word : List ℕ) → IfOk (agent_of word) (λ t. IsTrue (is_agent_name t))
agent word =
    each (λ t. Unit {0}) (λ t. IsTrue (is_agent_name t)) (text_of word) (λ t.
    passing Cause.BadName (is_agent_name t) t) (any (text_of word))
    (λ t u. passed (λ t. IsTrue (is_agent_name t)) Cause.BadName (is_agent_name t) t (λ e. e))

pattern : (rest : List ℕ) → IfOk (pattern_of rest) IsProperTarget
pattern rest =
    each (λ t. Unit {0}) IsProperTarget (text_of rest) (λ t.
    passing Cause.BadName (is_pattern t) (LevelTarget.Pattern t)) (any (text_of rest))
    (λ t u. passed IsProperTarget Cause.BadName (is_pattern t) (LevelTarget.Pattern t) (λ e. e))

pub target : (word : List ℕ) → IfOk (target_of word) IsProperTarget
target word = go (is_marked word)
  where
    go : (marked : Bool)
        → IfOk (cond marked (pattern_of (drop 1 word)) (and_then (name_of word) (λ n. Ok (LevelTarget.Name n))))
        IsProperTarget
    go true = pattern (drop 1 word)
    go false = of_one (λ t. IsTrue (is_name t)) IsProperTarget (name_of word) LevelTarget.Name (name word)
        (λ t named. named)

-- a text has a part, be it empty
some-parts : (t : List ℕ) → nat_lt 0 (length (comma_parts t)) ≡ true
some-parts t = go (nat_lt 0 (length (comma_parts t))) refl
  where
    go : (b : Bool) → nat_lt 0 (length (comma_parts t)) ≡ b → b ≡ true
    go true p = refl
    go false p =
        let none : length (comma_parts t) ≤ 0 = ltb-false 0 (length (comma_parts t)) p in
        let more : length (comma_parts t) ≡ count_by (λ b. b == 44) t + 1 = length-slice_split (λ b. b == 44) t in
        absurd (omega (arith, none, more))

pub devices : (word : List ℕ) → IfOk (devices_of word) AreNamed
devices word =
    each (λ t. Unit {0}) AreNamed (text_of word) (λ t. all_names (comma_parts t)) (any (text_of word))
    (λ t u. passed AreNamed Cause.BadName (list_all is_name (comma_parts t)) (comma_parts t) (λ e. (e, some-parts t)))

-- a value that is there
pub there : {X : Type 0} (Q : X → Type 0) (o : Option X) (cause : Cause) → IfSome o Q → IfOk (ok_or o cause) Q
there Q (Some x) cause h = h
there Q None cause h = tt

at_most-bound : (most n : ℕ) → IfSome (at_most most n) (λ k. k ≤ most)
at_most-bound most n = go (nat_le n most) refl
  where
    go : (b : Bool) → nat_le n most ≡ b → IfSome (cond b (Some n) None) (λ k. k ≤ most)
    go true e = grind (arith, nat_tests)
    go false e = tt

number-bound : (most : ℕ) (bytes : List ℕ) → IfSome (number most bytes) (λ n. n ≤ most)
number-bound most bytes = go (is_number bytes)
  where
    go : (b : Bool) → IfSome (cond b (at_most most (digits_value bytes)) None) (λ n. n ≤ most)
    go true = at_most-bound most (digits_value bytes)
    go false = tt

pub number_within : (most : ℕ) (word : List ℕ) → IfOk (number_of most word) (λ n. n ≤ most)
number_within most word =
    each (λ bytes. Unit {0}) (λ n. n ≤ most) (bytes_of word) (λ bytes. ok_or (number most bytes) Cause.BadNumber)
    (any (bytes_of word))
    (λ bytes u. there (λ n. n ≤ most) (number most bytes) Cause.BadNumber (number-bound most bytes))

askable : (on off reboot : Bool)
    → IfSome (cond on (Some Kind.On) (cond off (Some Kind.Off) (cond reboot (Some Kind.Reboot) None))) IsAskable
askable true off reboot = tt
askable false true reboot = tt
askable false false true = tt
askable false false false = tt

pub kind : (word : List ℕ) → IfOk (action_of word) IsAskable
kind word =
    each (λ bytes. Unit {0}) IsAskable (bytes_of word) (λ bytes. ok_or (action bytes) Cause.BadAction)
    (any (bytes_of word))
    (λ bytes u.
    there IsAskable (action bytes) Cause.BadAction
    (askable (bytes_eq bytes (codes "on")) (bytes_eq bytes (codes "off")) (bytes_eq bytes (codes "reboot"))))

-- a duration is at most a day
within_a_day-bound : (ms : ℕ) → IfOk (within_a_day ms) (λ n. n ≤ DAY)
within_a_day-bound ms = go (nat_le ms DAY) refl
  where
    go : (b : Bool) → nat_le ms DAY ≡ b → IfOk (cond b (Ok ms) (Err DurationFault.TooLarge)) (λ n. n ≤ DAY)
    go true e = grind (arith, nat_tests)
    go false e = tt

counted-bound : (n : ℕ) (u : Option ℕ) → IfOk (counted n u) (λ n. n ≤ DAY)
counted-bound n None = tt
counted-bound n (Some ms) = within_a_day-bound (n * ms)

duration-bound : (text : List ℕ) → IfOk (duration text) (λ n. n ≤ DAY)
duration-bound [] = tt
duration-bound (b ∷ bs) = go (is_ascii_digit b)
  where
    go : (digit : Bool)
        → IfOk
        (cond digit (counted (digits_value (take_while is_ascii_digit (b ∷ bs))) (unit (after_digits (b ∷ bs))))
        (Err DurationFault.NoDigits)) (λ n. n ≤ DAY)
    go true = counted-bound (digits_value (take_while is_ascii_digit (b ∷ bs))) (unit (after_digits (b ∷ bs)))
    go false = tt

-- a total is a millisecond to a day
abbrev pub IsTotal : ℕ → Type 0
IsTotal ms = (1 ≤ ms) × (ms ≤ DAY)

least : (d : Result ℕ DurationFault) → IfOk d (λ n. n ≤ DAY) → IfSome (at_least_one d) IsTotal
least (Err fault) h = tt
least (Ok ms) h = go (nat_le 1 ms) refl
  where
    go : (b : Bool) → nat_le 1 ms ≡ b → IfSome (cond b (Some ms) None) IsTotal
    go true e = (grind (arith, nat_tests), h)
    go false e = tt

pub total : (value : List ℕ) → IfSome (at_least_one (duration value)) IsTotal
total value = least (duration value) (duration-bound value)
