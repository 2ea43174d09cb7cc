-- The numbers that are read of values which passed their parsers.
use Rattle.std.proofs.Common.{ℕ, ◌≡◌, ◌≤◌, ◌<◌, ◌^◌, Option, Some, None, Result, Ok, refl, sym, ap, subst}
use Rattle.std.proofs.Common.{arith, codes, pos}
use Rattle.std.specs.Prelude.{IfSome, option_map, unwrap_or}
use Rattle.std.specs.Option.{option_map_or}
use Rattle.std.specs.Str.Parse.{ExplainsUnsignedError, HasUnsignedDigitsIfOk, ParsesUnsigned}
use Rattle.std.specs.declared.num.ParseIntError.{ParseIntError}
use Rattle.clap.specs.Words.{IsUnsignedIn, ReadsOne, Rule, Text, one_of, one_text, rows_of}
use Rattle.clap.specs.declared.parser.matches.Found.{Found}
use Rattle.clap.specs.declared.builder.value_parser.ValueParser.TheVariants as parser
use Rattle.clap.proofs.CallerReads.{signed_reads}
use Rattle.clap.proofs.WalkLemmas.{one_text-rows}
use Rattle.fnc_journal.specs.declared.limits.TheConstants as limits
use Rattle.fnc_words.specs.declared.course.TheConstants as course
use Rattle.fnc_words.specs.Arguments.{count_rule, entries_rule, number_rule}
use Rattle.fnc_words.specs.Making.{HasPassed, Passed}
use Rattle.fnc_words.specs.Values.{number_in}

-- what `parse` gives of a text at an unsigned type of k bits
abbrev pub Gives : ℕ → Text → Result ℕ ParseIntError → Type 0
Gives k text r = ParsesUnsigned k 10 text r × ExplainsUnsignedError 10 text r × HasUnsignedDigitsIfOk text r

-- what a getter reads of a text, where there is one
pub record IsRead (k : ℕ) (text : Option Text) (read : Option ℕ) : Type 0 where
  pub none : text ≡ None → read ≡ None
  pub some : (t : Text) → text ≡ Some t → ReadsOne (Gives k) t read

-- the number of a value, where there is one, and its limits
pub record ReadsNumber (low high : ℕ) (read : Option ℕ) (text : Option Text) : Type 0 where
  pub is : read ≡ option_map number_in text
  pub within : IfSome read (λ n. (low ≤ n) × (n ≤ high))

-- a number of 32 bits within limits
signed-read : (low high : ℕ) (text : Option Text) (read : Option ℕ) → IsRead 32 text read → high < 2 ^ 32 →
    ((t : Text) → text ≡ Some t → Passed (parser.Signed (pos low) (pos high)) t) → ReadsNumber low high read text
signed-read low high None read reads fits passed = rw (reads.none refl) (record { is = refl; within = tt })
signed-read low high (Some t) read reads fits passed =
    let pass = passed t refl in
    let one : ReadsOne (Gives 32) t read = reads.some t refl in
    let got = signed_reads ParseIntError (Gives 32) 32 low high pass.text read
    (subst (λ (u : Text). ReadsOne (Gives 32) u read) pass.is one) (λ u x g. g.0) fits pass.accepted in
    let given : Gives 32 t (Ok got.0) = subst (λ (o : Option ℕ). ReadsOne (Gives 32) t o) got.1 one in
    rw got.1 (record { is = ap Some given.0.1; within = (got.2, got.3) })

-- a number of 64 bits
unsigned-read : (high : ℕ) (text : Option Text) (read : Option ℕ) → IsRead 64 text read →
    ((t : Text) → text ≡ Some t → Passed (parser.Unsigned 0 high) t) → read ≡ option_map number_in text
unsigned-read high None read reads passed = reads.none refl
unsigned-read high (Some t) read reads passed = go read (passed t refl) (reads.some t refl)
  where
    go : (read : Option ℕ) → Passed (parser.Unsigned 0 high) t → ReadsOne (Gives 64) t read → read ≡ Some (number_in t)
    go (Some n) pass one = ap Some one.0.1
    go None pass one =
        let accepted = subst (IsUnsignedIn 0 high) (sym pass.is) pass.accepted in
        absurd (one.1.0 (accepted.0, accepted.1))

-- what is read of an argument that is a number of 32 bits within limits
rule-read : (low high : ℕ) (rule : Rule) (f : Found) (read : Option ℕ) →
    rule.parser ≡ Some (parser.Signed (pos low) (pos high)) → HasPassed (rows_of f) rule →
    IsRead 32 (one_text f rule.id) read → high < 2 ^ 32 → ReadsNumber low high read (one_of rule.id (rows_of f))
rule-read low high rule f read parsed passed reads fits =
    signed-read low high (one_of rule.id (rows_of f)) read
    (subst (λ (o : Option Text). IsRead 32 o read) (one_text-rows f rule.id) reads) fits (λ t e. passed _ t parsed e)

pub entries-read : (f : Found) (read : Option ℕ) → HasPassed (rows_of f) entries_rule →
    IsRead 32 (one_text f (codes "entries")) read →
    ReadsNumber limits.LEAST_JOURNAL limits.GREATEST_JOURNAL read (one_of (codes "entries") (rows_of f))
entries-read f read passed reads =
    rule-read limits.LEAST_JOURNAL limits.GREATEST_JOURNAL entries_rule f read refl passed reads (omega arith)

pub count-read : (f : Found) (read : Option ℕ) → HasPassed (rows_of f) count_rule →
    IsRead 32 (one_text f (codes "count")) read →
    ReadsNumber course.LEAST_STEPS course.MOST_STEPS read (one_of (codes "count") (rows_of f))
count-read f read passed reads =
    rule-read course.LEAST_STEPS course.MOST_STEPS count_rule f read refl passed reads (omega arith)

pub number-read : (f : Found) (read : Option ℕ) → HasPassed (rows_of f) number_rule →
    IsRead 64 (one_text f (codes "number")) read → read ≡ option_map number_in (one_of (codes "number") (rows_of f))
number-read f read passed reads =
    unsigned-read _ (one_of (codes "number") (rows_of f)) read
    (subst (λ (o : Option Text). IsRead 64 o read) (one_text-rows f (codes "number")) reads)
    (λ t e. passed _ t refl e)

-- the number that counts where none is written
pub or-default : (low high default : ℕ) (read : Option ℕ) (text : Option Text) → ReadsNumber low high read text →
    unwrap_or read default ≡ option_map_or number_in text default
or-default low high default read None reads = ap (λ (o : Option ℕ). unwrap_or o default) reads.is
or-default low high default read (Some t) reads = ap (λ (o : Option ℕ). unwrap_or o default) reads.is

pub default-within : (low high default : ℕ) (read : Option ℕ) → IfSome read (λ n. (low ≤ n) × (n ≤ high)) →
    low ≤ default → default ≤ high → (low ≤ unwrap_or read default) × (unwrap_or read default ≤ high)
default-within low high default None within least most = (least, most)
default-within low high default (Some n) within least most = within
