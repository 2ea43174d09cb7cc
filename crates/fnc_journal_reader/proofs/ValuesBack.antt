-- Values are read back from their spellings.
use Rattle.std.proofs.Common.{
  ◌≡◌,
  ◌<◌,
  ◌≤◌,
  ◌^◌,
  ℕ,
  suc,
  ℤ,
  pos,
  negsuc,
  List,
  [],
  ◌∷◌,
  Bool,
  true,
  false,
  map,
  codes,
  decimal,
  Option,
  Some,
  None,
  Result,
  Ok,
  refl,
  ap,
  ◌∙◌,
  arith,
}
use Rattle.std.specs.Prelude.{nat_lt, nat_le}
use Rattle.std.specs.Fmt.{signed_decimal}
use Rattle.std.specs.Char.{is_ascii_digit}
use Rattle.std.specs.List.{list_all}
use Rattle.std.proofs.lemmas.Bool.{and_parts, leb-true, ltb-true}
use Rattle.fnc_journal.specs.declared.cause.Cause.{Cause}
use Rattle.fnc_journal.specs.declared.definition.HostCheck.{HostCheck}
use Rattle.fnc_journal.specs.declared.entry.Answer.{Answer}
use Rattle.fnc_journal.specs.declared.entry.Exit.{Exit}
use Rattle.fnc_journal.specs.declared.entry.Kind.{Kind}
use Rattle.fnc_journal.specs.declared.entry.LevelTarget.{LevelTarget}
use Rattle.fnc_journal.specs.declared.entry.Phase.{Phase}
use Rattle.fnc_journal.specs.declared.entry.Scope.{Scope}
use Rattle.fnc_journal.specs.Causes.{word_of}
use Rattle.fnc_journal.specs.Line.{escaped, kind_word}
use Rattle.fnc_journal.specs.declared.limits.TheConstants.{GREATEST_PRIORITY}
use Rattle.fnc_journal_reader.specs.declared.fault.EntryFault.{EntryFault}
use Rattle.fnc_journal.specs.Bounds as Bounds
use Rattle.fnc_journal_reader.specs.Reads.{◌>>=◌, each, or_malformed}
use Rattle.fnc_journal_text.specs.Spelled as Spelled
use Rattle.fnc_journal_reader.specs.Typed as Typed
use Rattle.fnc_journal_reader.specs.Values as Values
use Rattle.fnc_journal_reader.proofs.Spellings.{
  is_safe,
  lacks,
  has_byte,
  escaped-has,
  decimal-has,
  escaped-lacks,
  decimal-lacks,
  decimal-digits,
  digit-other,
  digits-differ,
  number-back,
  unescaped-back,
}
use Rattle.fnc_journal_reader.proofs.CharacterBytes.{characters-bytes}
use Rattle.fnc_journal_reader.proofs.Splits.{is_part}

-- a step that succeeds
pub step : {A B : Type 0} (r : Result A EntryFault) (x : A) (f : A → Result B EntryFault) (y : Result B EntryFault) →
    r ≡ Ok x → f x ≡ y → (r >>= f) ≡ y
step r x f y e h = ap (λ s. s >>= f) e ∙ h

pub each-back : {X : Type 0} (read : List ℕ → Result X EntryFault) (spell : X → List ℕ) (p q : X → Bool) →
    ((x : X) → p x ≡ true → q x ≡ true → read (spell x) ≡ Ok x) → (xs : List X) →
    list_all p xs ≡ true → list_all q xs ≡ true → each read (map spell xs) ≡ Ok xs
each-back read spell p q f [] k l = refl
each-back read spell p q f (x ∷ xs) k l =
    let ps = and_parts (p x) (list_all p xs) k in
    let qs = and_parts (q x) (list_all q xs) l in
    step (read (spell x)) x _ _ (f x ps.0 qs.0)
    (step (each read (map spell xs)) xs _ _ (each-back read spell p q f xs ps.1 qs.1) refl)

-- numbers
pub number_of-back : (most n : ℕ) → n ≤ most → n < 2 ^ 64 → Values.number_of most (decimal n) ≡ Ok n
number_of-back most n l h = ap or_malformed (number-back most n l h)

pub u64-back : (n : ℕ) → n < 2 ^ 64 → Values.u64_of (decimal n) ≡ Ok n
u64-back n h = number_of-back 18446744073709551615 n (omega (arith, h)) h

pub u32-back : (n : ℕ) → n < 2 ^ 32 → Values.u32_of (decimal n) ≡ Ok n
u32-back n h = number_of-back 4294967295 n (omega (arith, h)) (omega (arith, h))

pub u8-back : (n : ℕ) → n < 2 ^ 8 → Values.u8_of (decimal n) ≡ Ok n
u8-back n h = number_of-back 255 n (omega (arith, h)) (omega (arith, h))

-- texts
pub text-back : (t : List ℕ) → Typed.are_characters t ≡ true → Values.text_of (escaped t) ≡ Ok t
text-back t h = ap Values.or_no_text (unescaped-back t (characters-bytes t h) h)

pub text-lacks : (sep : ℕ) (t : List ℕ) → is_safe sep ≡ false → Typed.are_characters t ≡ true →
    lacks sep (escaped t) ≡ true
text-lacks sep t s h = escaped-lacks sep t s (characters-bytes t h)

pub part-of : (sep : ℕ) (w : List ℕ) → has_byte w ≡ true → lacks sep w ≡ true → is_part sep w ≡ true
part-of sep w h k = rw (h, k) refl

pub text-part : (sep : ℕ) (t : List ℕ) → is_safe sep ≡ false → has_byte t ≡ true → Typed.are_characters t ≡ true →
    is_part sep (escaped t) ≡ true
text-part sep t s k h = part-of sep (escaped t) (escaped-has t k) (text-lacks sep t s h)

pub number-part : (sep n : ℕ) → is_safe sep ≡ false → n < 2 ^ 64 → is_part sep (decimal n) ≡ true
number-part sep n s h = part-of sep (decimal n) (decimal-has n h) (decimal-lacks sep n s h)

optional-some : (w : List ℕ) → has_byte w ≡ true → Values.optional_of w ≡ (Values.text_of w >>= λ text. Ok (Some text))
optional-some [] h = absurd cc
optional-some (b ∷ bs) h = refl

option-has : (name : List ℕ) → Bounds.is_option_name name ≡ true → has_byte name ≡ true
option-has [] h = cc
option-has (b ∷ bs) h = refl

pub optional-back : (t : Option (List ℕ)) → Bounds.is_carrier t ≡ true → Typed.is_optional t ≡ true →
    Values.optional_of (Spelled.text_or_none t) ≡ Ok t
optional-back None b h = refl
optional-back (Some t) b h =
    optional-some (escaped t) (escaped-has t (option-has t b))
    ∙ step (Values.text_of (escaped t)) t _ _ (text-back t h) refl

pub optional-lacks : (sep : ℕ) (t : Option (List ℕ)) → is_safe sep ≡ false → Typed.is_optional t ≡ true →
    lacks sep (Spelled.text_or_none t) ≡ true
optional-lacks sep None s h = refl
optional-lacks sep (Some t) s h = text-lacks sep t s h

-- cases
pub kind-back : (k : Kind) → Values.kind_of (kind_word k) ≡ Ok k
kind-back Kind.On = refl
kind-back Kind.Off = refl
kind-back Kind.Reboot = refl
kind-back Kind.List = refl
kind-back Kind.Status = refl

pub kind-part : (k : Kind) → is_part 32 (kind_word k) ≡ true
kind-part Kind.On = refl
kind-part Kind.Off = refl
kind-part Kind.Reboot = refl
kind-part Kind.List = refl
kind-part Kind.Status = refl

pub phase-back : (p : Phase) → Values.phase_of (Spelled.phase_word p) ≡ Ok p
phase-back Phase.Query = refl
phase-back Phase.Act = refl
phase-back Phase.Off = refl
phase-back Phase.On = refl

pub phase-part : (p : Phase) → is_part 32 (Spelled.phase_word p) ≡ true
phase-part Phase.Query = refl
phase-part Phase.Act = refl
phase-part Phase.Off = refl
phase-part Phase.On = refl

pub check-back : (c : HostCheck) → Values.check_of (Spelled.check_word c) ≡ Ok c
check-back HostCheck.DynamicList = refl
check-back HostCheck.StaticList = refl
check-back HostCheck.Status = refl
check-back HostCheck.Nothing = refl

pub check-lacks : (c : HostCheck) → lacks 32 (Spelled.check_word c) ≡ true
check-lacks HostCheck.DynamicList = refl
check-lacks HostCheck.StaticList = refl
check-lacks HostCheck.Status = refl
check-lacks HostCheck.Nothing = refl

pub flag-back : (b : Bool) → Values.flag_of (Spelled.flag_text b) ≡ b
flag-back true = refl
flag-back false = refl

pub flag-part : (b : Bool) → is_part 32 (Spelled.flag_text b) ≡ true
flag-part true = refl
flag-part false = refl

pub exit-back : (e : Exit) → Typed.IsExit e → Values.exit_of (Spelled.exit_word e) ≡ Ok e
exit-back (Exit.Code n) h =
    let digits = decimal-digits n (omega (arith, h)) in
    rw (digits-differ (decimal n) 115 _ refl digits, digits-differ (decimal n) 110 (codes "o-start") refl digits, digits-differ (decimal n) 116 _ refl digits, digits-differ (decimal n) 110 (codes "o-memory") refl digits)
    (step (Values.u8_of (decimal n)) n _ _ (u8-back n h) refl)
exit-back Exit.Signal h = refl
exit-back Exit.NoStart h = refl
exit-back Exit.TooLong h = refl
exit-back Exit.NoMemory h = refl

pub exit-part : (e : Exit) → Typed.IsExit e → is_part 32 (Spelled.exit_word e) ≡ true
exit-part (Exit.Code n) h = number-part 32 n refl (omega (arith, h))
exit-part Exit.Signal h = refl
exit-part Exit.NoStart h = refl
exit-part Exit.TooLong h = refl
exit-part Exit.NoMemory h = refl

pub scope-back : (s : Scope) → Typed.IsScope s → Values.scope_of (Spelled.scope_word s) ≡ Ok s
scope-back Scope.Nothing h = refl
scope-back Scope.Name h = refl
scope-back (Scope.Pattern n) h = step (Values.u32_of (decimal n)) n _ _ (u32-back n h) refl

pub scope-part : (s : Scope) → Typed.IsScope s → is_part 32 (Spelled.scope_word s) ≡ true
scope-part Scope.Nothing h = refl
scope-part Scope.Name h = refl
scope-part (Scope.Pattern n) h = decimal-lacks 32 n refl (omega (arith, h))

pub answer-back : (a : Answer) → Typed.IsAnswer a →
    Values.answer_of (Spelled.answer_word a) (Spelled.answer_text a) ≡ Ok a
answer-back (Answer.Passed n) h =
    rw (digits-differ (decimal n) 99 (codes "onfirmed") refl (decimal-digits n (omega (arith, h))))
    (step (Values.u8_of (decimal n)) n _ _ (u8-back n h) refl)
answer-back Answer.Confirmed h = refl
answer-back Answer.Levels h = refl
answer-back Answer.Time h = refl
answer-back Answer.NoDevice h = refl

pub answer-part : (a : Answer) → is_part 32 (Spelled.answer_word a) ≡ true
answer-part (Answer.Passed n) = refl
answer-part Answer.Confirmed = refl
answer-part Answer.Levels = refl
answer-part Answer.Time = refl
answer-part Answer.NoDevice = refl

pub answered-part : (a : Answer) → Typed.IsAnswer a → is_part 32 (Spelled.answer_text a) ≡ true
answered-part (Answer.Passed n) h = number-part 32 n refl (omega (arith, h))
answered-part Answer.Confirmed h = refl
answered-part Answer.Levels h = refl
answered-part Answer.Time h = refl
answered-part Answer.NoDevice h = refl

pub target-back : (t : LevelTarget) → Typed.is_target t ≡ true →
    Values.target_of (Spelled.target_word t) (escaped (Spelled.target_text t)) ≡ Ok t
target-back (LevelTarget.Name name) h = step (Values.text_of (escaped name)) name _ _ (text-back name h) refl
target-back (LevelTarget.Pattern pattern) h =
    step (Values.text_of (escaped pattern)) pattern _ _ (text-back pattern h) refl

pub target-part : (t : LevelTarget) → is_part 32 (Spelled.target_word t) ≡ true
target-part (LevelTarget.Name name) = refl
target-part (LevelTarget.Pattern pattern) = refl

pub cap-back : (c : Option ℕ) → Bounds.is_cap c ≡ true → Values.cap_of (Spelled.cap_text c) ≡ Ok c
cap-back None b = refl
cap-back (Some n) b =
    let small : n ≤ 64 = leb-true n 64 (and_parts (nat_lt 0 n) (nat_le n 64) b).1 in
    rw (digits-differ (decimal n) 45 (codes "1") refl (decimal-digits n (omega (arith, small))))
    (step (Values.u32_of (decimal n)) n _ _ (u32-back n (omega (arith, small))) refl)

pub cap-lacks : (c : Option ℕ) → Bounds.is_cap c ≡ true → lacks 32 (Spelled.cap_text c) ≡ true
cap-lacks None b = refl
cap-lacks (Some n) b =
    let small : n ≤ 64 = leb-true n 64 (and_parts (nat_lt 0 n) (nat_le n 64) b).1 in
    decimal-lacks 32 n refl (omega (arith, small))

priority-digits : (ds : List ℕ) → has_byte ds ≡ true → list_all is_ascii_digit ds ≡ true →
    Values.priority_of ds ≡ (Values.number_of GREATEST_PRIORITY ds >>= λ n. Ok (pos n))
priority-digits [] k h = absurd cc
priority-digits (d ∷ ds) k h =
    rw (digit-other d 45 refl (and_parts (is_ascii_digit d) (list_all is_ascii_digit ds) h).0) refl

pub priority-back : (z : ℤ) → Bounds.is_priority z ≡ true → Values.priority_of (signed_decimal z) ≡ Ok z
priority-back (pos n) b =
    let small : n ≤ GREATEST_PRIORITY = leb-true n GREATEST_PRIORITY b in
    let fits : n < 2 ^ 64 = omega (arith, small) in
    priority-digits (decimal n) (decimal-has n fits) (decimal-digits n fits)
    ∙ step (Values.number_of GREATEST_PRIORITY (decimal n)) n _ _ (number_of-back GREATEST_PRIORITY n small fits) refl
priority-back (negsuc n) b =
    let small : n < GREATEST_PRIORITY = ltb-true n GREATEST_PRIORITY b in
    step (Values.number_of GREATEST_PRIORITY (decimal (suc n))) (suc n) _ _
    (number_of-back GREATEST_PRIORITY (suc n) (omega (arith, small)) (omega (arith, small))) refl

pub priority-lacks : (z : ℤ) → Bounds.is_priority z ≡ true → lacks 32 (signed_decimal z) ≡ true
priority-lacks (pos n) b =
    let small : n ≤ GREATEST_PRIORITY = leb-true n GREATEST_PRIORITY b in decimal-lacks 32 n refl (omega (arith, small))
priority-lacks (negsuc n) b =
    let small : n < GREATEST_PRIORITY = ltb-true n GREATEST_PRIORITY b in decimal-lacks 32 (suc n) refl (omega (arith, small))

pub cause-back : (c : Cause) → Values.cause_of (word_of c) ≡ Ok c
cause-back Cause.TooLong = refl
cause-back Cause.NotUtf8 = refl
cause-back Cause.Empty = refl
cause-back Cause.BadMoment = refl
cause-back Cause.MissingWord = refl
cause-back Cause.UnknownVerb = refl
cause-back Cause.ExtraWord = refl
cause-back Cause.BadEscape = refl
cause-back Cause.BadName = refl
cause-back Cause.BadNumber = refl
cause-back Cause.BadAction = refl
cause-back Cause.BadExit = refl
cause-back Cause.BadTotal = refl
cause-back Cause.BadWord = refl
cause-back Cause.PastMoment = refl
cause-back Cause.NotRegistered = refl
cause-back Cause.NoLevel = refl
cause-back Cause.BadIndex = refl
cause-back Cause.TooManyPlaces = refl
cause-back Cause.RepeatedDevice = refl
cause-back Cause.BadPattern = refl
cause-back Cause.TooManyLevels = refl
cause-back Cause.BadDescription = refl
cause-back Cause.NotObject = refl
cause-back Cause.BadField = refl
cause-back Cause.NoOff = refl
cause-back Cause.TooManyAgents = refl
cause-back Cause.TooManyOptions = refl
cause-back Cause.BadOption = refl
cause-back Cause.RepeatedOption = refl
cause-back Cause.BadHostList = refl
cause-back Cause.BadHostMap = refl
cause-back Cause.BadHostCheck = refl
cause-back Cause.BadDuration = refl
cause-back Cause.BadLimit = refl
cause-back Cause.BadPriority = refl
cause-back Cause.BadRetries = refl
cause-back Cause.MissingParameter = refl
cause-back Cause.TooManyDevices = refl
cause-back Cause.UnknownRun = refl
cause-back Cause.Full = refl
cause-back Cause.NoMemory = refl

pub cause-part : (c : Cause) → is_part 32 (word_of c) ≡ true
cause-part Cause.TooLong = refl
cause-part Cause.NotUtf8 = refl
cause-part Cause.Empty = refl
cause-part Cause.BadMoment = refl
cause-part Cause.MissingWord = refl
cause-part Cause.UnknownVerb = refl
cause-part Cause.ExtraWord = refl
cause-part Cause.BadEscape = refl
cause-part Cause.BadName = refl
cause-part Cause.BadNumber = refl
cause-part Cause.BadAction = refl
cause-part Cause.BadExit = refl
cause-part Cause.BadTotal = refl
cause-part Cause.BadWord = refl
cause-part Cause.PastMoment = refl
cause-part Cause.NotRegistered = refl
cause-part Cause.NoLevel = refl
cause-part Cause.BadIndex = refl
cause-part Cause.TooManyPlaces = refl
cause-part Cause.RepeatedDevice = refl
cause-part Cause.BadPattern = refl
cause-part Cause.TooManyLevels = refl
cause-part Cause.BadDescription = refl
cause-part Cause.NotObject = refl
cause-part Cause.BadField = refl
cause-part Cause.NoOff = refl
cause-part Cause.TooManyAgents = refl
cause-part Cause.TooManyOptions = refl
cause-part Cause.BadOption = refl
cause-part Cause.RepeatedOption = refl
cause-part Cause.BadHostList = refl
cause-part Cause.BadHostMap = refl
cause-part Cause.BadHostCheck = refl
cause-part Cause.BadDuration = refl
cause-part Cause.BadLimit = refl
cause-part Cause.BadPriority = refl
cause-part Cause.BadRetries = refl
cause-part Cause.MissingParameter = refl
cause-part Cause.TooManyDevices = refl
cause-part Cause.UnknownRun = refl
cause-part Cause.Full = refl
cause-part Cause.NoMemory = refl

pub actions-back : (on off reboot list status : Bool) →
    Values.actions_of (Spelled.actions_text (record { on = on; off = off; reboot = reboot; list = list; status = status })) ≡ record { on = on; off = off; reboot = reboot; list = list; status = status }
actions-back true true true true true = refl
actions-back true true true true false = refl
actions-back true true true false true = refl
actions-back true true true false false = refl
actions-back true true false true true = refl
actions-back true true false true false = refl
actions-back true true false false true = refl
actions-back true true false false false = refl
actions-back true false true true true = refl
actions-back true false true true false = refl
actions-back true false true false true = refl
actions-back true false true false false = refl
actions-back true false false true true = refl
actions-back true false false true false = refl
actions-back true false false false true = refl
actions-back true false false false false = refl
actions-back false true true true true = refl
actions-back false true true true false = refl
actions-back false true true false true = refl
actions-back false true true false false = refl
actions-back false true false true true = refl
actions-back false true false true false = refl
actions-back false true false false true = refl
actions-back false true false false false = refl
actions-back false false true true true = refl
actions-back false false true true false = refl
actions-back false false true false true = refl
actions-back false false true false false = refl
actions-back false false false true true = refl
actions-back false false false true false = refl
actions-back false false false false true = refl
actions-back false false false false false = refl

pub actions-lack : (on off reboot list status : Bool) → lacks 32 (Spelled.actions_text (record { on = on; off = off; reboot = reboot; list = list; status = status })) ≡ true
actions-lack true true true true true = refl
actions-lack true true true true false = refl
actions-lack true true true false true = refl
actions-lack true true true false false = refl
actions-lack true true false true true = refl
actions-lack true true false true false = refl
actions-lack true true false false true = refl
actions-lack true true false false false = refl
actions-lack true false true true true = refl
actions-lack true false true true false = refl
actions-lack true false true false true = refl
actions-lack true false true false false = refl
actions-lack true false false true true = refl
actions-lack true false false true false = refl
actions-lack true false false false true = refl
actions-lack true false false false false = refl
actions-lack false true true true true = refl
actions-lack false true true true false = refl
actions-lack false true true false true = refl
actions-lack false true true false false = refl
actions-lack false true false true true = refl
actions-lack false true false true false = refl
actions-lack false true false false true = refl
actions-lack false true false false false = refl
actions-lack false false true true true = refl
actions-lack false false true true false = refl
actions-lack false false true false true = refl
actions-lack false false true false false = refl
actions-lack false false false true true = refl
actions-lack false false false true false = refl
actions-lack false false false false true = refl
actions-lack false false false false false = refl
