-- What was read of a source, poll by poll.
use Rattle.std.proofs.Common.{ℕ, List, [], ◌∷◌, ◌++◌, true, false, ◌≡◌, ◌≤◌, ◌<◌, refl, ap, ap₂, sym, ◌∙◌, subst}
use Rattle.std.proofs.Common.{Option, Some, None, map, append-nil, append_assoc, length}
use Rattle.std.specs.Prelude.{nat_le}
use Rattle.std.proofs.lemmas.Bool.{le-leb, lt-leb}
use Rattle.std.specs.List.{AllByRecursion}
use Rattle.fnc_outside.specs.Buffered.{Buffered}
use Rattle.fnc_outside.specs.Events.{Happening}
use Rattle.fnc_outside.specs.Polls.{IsPolled, Leaves, given_by}
use Rattle.fnc_outside.specs.Polls as polls
use Rattle.fnc_outside.specs.Told.{Gains, WhereTold}
use Rattle.fnc_outside.specs.declared.source.Polled.{Polled}
use Rattle.fnc_outside.proofs.Telling.{gains-gains}
use Rattle.fnc_told.specs.Read.{AreFirst, FitsIn, Gave, read_in}
use Rattle.fnc_told.specs.SourceAndSink.{Change, SourceTold, change}

-- nothing was gained before the first call
pub gains-none : {A : Type 0} (told : Option (List A)) → Gains told told []
gains-none None = tt
gains-none (Some xs) = sym (append-nil xs)

first-none : (size : ℕ) (left : Option (List Happening)) → WhereTold left left (AreFirst size [])
first-none size None = tt
first-none size (Some xs) = record { came = []; first = refl; read = refl }

-- nothing was read before the first poll
pub gave-none : (size : ℕ) (told : SourceTold) → Gave size (change told told) []
gave-none size told = record { gained = gains-none told.given; fit = tt; first = first-none size told.left }

-- what is told of two calls, one after the other
told-then : {A : Type 0} (P Q R : A → A → Type 0) (before between after : Option A) →
    ((x y z : A) → P x y → Q y z → R x z) → WhereTold before between P → WhereTold between after Q →
    WhereTold before after R
told-then P Q R before between None both p q = tt
told-then P Q R before None (Some z) both p q = absurd q
told-then P Q R None (Some y) (Some z) both p q = absurd p
told-then P Q R (Some x) (Some y) (Some z) both p q = both x y z p q

told-where : {A : Type 0} (P Q : A → A → Type 0) (before after : Option A) → ((x y : A) → P x y → Q x y) →
    WhereTold before after P → WhereTold before after Q
told-where P Q before None hold p = tt
told-where P Q None (Some y) hold p = absurd p
told-where P Q (Some x) (Some y) hold p = hold x y p

all-append : (P : Happening → Type 0) (xs ys : List Happening) → AllByRecursion P xs → AllByRecursion P ys →
    AllByRecursion P (xs ++ ys)
all-append P [] ys a b = b
all-append P (x ∷ xs) ys a b = (a.0, all-append P xs ys a.1 b)

map-more : (f : Happening → Happening) (xs ys : List Happening) → map f (xs ++ ys) ≡ map f xs ++ map f ys
map-more f [] ys = refl
map-more f (x ∷ xs) ys = ap (λ zs. f x ∷ zs) (map-more f xs ys)

first-first : (size : ℕ) (xs ys before between after : List Happening) → AreFirst size xs before between →
    AreFirst size ys between after → AreFirst size (xs ++ ys) before after
first-first size xs ys before between after a b = record {
  came = a.came ++ b.came;
  first = a.first ∙ ap (λ zs. a.came ++ zs) b.first ∙ sym (append_assoc a.came b.came after);
  read = ap₂ (λ (x y : List Happening). x ++ y) a.read b.read ∙ sym (map-more (read_in size) a.came b.came);
}

-- what was read by some polls, and then by others
pub gave-gave : (size : ℕ) (start : SourceTold) (source : Change SourceTold) (xs ys : List Happening) →
    Gave size (change start source.before) xs → Gave size source ys → Gave size (change start source.after) (xs ++ ys)
gave-gave size start source xs ys a b = record {
  gained = gains-gains start.given source.before.given source.after.given xs ys a.gained b.gained;
  fit = all-append (FitsIn size) xs ys a.fit b.fit;
  first =
      told-then (AreFirst size xs) (AreFirst size ys) (AreFirst size (xs ++ ys)) start.left
      source.before.left source.after.left
      (λ x y z p q. first-first size xs ys x y z p q) a.first b.first;
}

-- a line that the buffer can hold, and one that it cannot
read-line : (size : ℕ) (bytes : List ℕ) → length bytes ≤ size →
    read_in size (Happening.Line bytes) ≡ Happening.Line bytes
read-line size bytes fits =
    let test : nat_le (length bytes) size ≡ true = le-leb (length bytes) size fits in rw test refl

read-long : (size : ℕ) (bytes : List ℕ) → size < length bytes →
    read_in size (Happening.Line bytes) ≡ Happening.TooLong size
read-long size bytes long =
    let test : nat_le (length bytes) size ≡ false = lt-leb (length bytes) size long in rw test refl

-- what one poll gave, with a buffer of this size
pub gave-poll : (size : ℕ) (answer : Polled) (buffer : Buffered) (source : Change SourceTold) → buffer.size ≡ size →
    IsPolled answer buffer → Leaves answer buffer source.before.left source.after.left →
    Gains source.before.given source.after.given (given_by answer buffer) → Gave size source (given_by answer buffer)
gave-poll size Polled.Line buffer source sized polled leaves gains = record {
  gained = gains;
  fit = (subst (λ n. length buffer.bytes ≤ n) sized polled, tt);
  first =
      told-where (polls.Takes Polled.Line buffer) _ source.before.left source.after.left
      (λ x y p. record {
        came = Happening.Line buffer.bytes ∷ [];
        first = p;
        read =
            ap (λ z. z ∷ []) (sym (read-line size buffer.bytes
            (subst (λ n. length buffer.bytes ≤ n) sized polled)));
      }) leaves;
}
gave-poll size Polled.TooLong buffer source sized polled leaves gains = record {
  gained = gains;
  fit = (sized, tt);
  first =
      told-where (polls.Takes Polled.TooLong buffer) _ source.before.left source.after.left
      (λ x y p. record {
        came = Happening.Line p.0 ∷ [];
        first = p.1;
        read =
            ap (λ n. Happening.TooLong n ∷ []) sized
            ∙ ap (λ z. z ∷ []) (sym (read-long size p.0 (subst (λ n. n < length p.0) sized p.2)));
      }) leaves;
}
gave-poll size Polled.Again buffer source sized polled leaves gains = record {
  gained = gains;
  fit = (tt, tt);
  first =
      told-where (polls.Takes Polled.Again buffer) _ source.before.left source.after.left
      (λ x y p. record { came = Happening.Again ∷ []; first = p; read = refl }) leaves;
}
gave-poll size Polled.End buffer source sized polled leaves gains = record {
  gained = gains;
  fit = tt;
  first =
      told-where (polls.Takes Polled.End buffer) _ source.before.left source.after.left
      (λ x y p. record { came = []; first = p.0 ∙ sym p.1; read = refl }) leaves;
}
gave-poll size Polled.Failed buffer source sized polled leaves gains = record {
  gained = gains;
  fit = tt;
  first =
      told-where (polls.Takes Polled.Failed buffer) _ source.before.left source.after.left
      (λ x y p. record { came = []; first = sym p; read = refl }) leaves;
}
