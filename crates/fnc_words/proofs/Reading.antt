-- What a getter reads of an argument after a parse that took the words: where there is a text, it passed the parser of
-- its argument, and is read as that parser says.
use Rattle.std.proofs.Common.{◌≡◌, ◌∙◌, ◌<◌, ap, ℕ, Bool, true, false, List, [], ◌∷◌, length}
use Rattle.std.proofs.Common.{Option, Some, None, refl, sym, subst, inl, inr, arith}
use Rattle.std.specs.List.{All, slice_index_or}
use Rattle.std.specs.Str.{bytes_eq}
use Rattle.std.specs.Prelude.{option_map, slice_get, unwrap_or}
use Rattle.std.specs.Borrow.{Bor}
use Rattle.std.proofs.lemmas.Slice.Eq.{bytes_eq-Decides}
use Rattle.std.proofs.lemmas.List.Elements.{All-get_or}
use Rattle.clap.specs.Facts.{args_of, groups_of, Entry, EntryPasses, PassesArg, HasReading, parser_of}
use Rattle.clap.specs.Facts.{parser_of_value}
use Rattle.clap.specs.Built.{IsParsedFrom, IsAuto, SameRules}
use Rattle.clap.specs.Matches.{matched_of, one_text, found_of}
use Rattle.clap.specs.Values.{Accepts, read_as, reading_of}
use Rattle.clap.proofs.CallerLemmas.{entry_by_id, same_rules_by_id}
use Rattle.clap.specs.declared.builder.arg.Arg.{Arg}
use Rattle.clap.specs.declared.builder.command.Command.{Command}
use Rattle.clap.specs.declared.builder.command.Command.TheViews.{out-Command}
use Rattle.clap.specs.declared.builder.value_parser.ValueParser.{ValueParser}
use Rattle.clap.specs.declared.builder.value_parser.Reading.{Reading}
use Rattle.clap.specs.declared.parser.matches.ArgMatches.{ArgMatches}
use Rattle.clap.specs.declared.parser.matches.MatchedArg.{MatchedArg}
use Rattle.fnc_words.specs.Making.{Passed}

-- among these arguments one that no other has the id of, with its parser
pub record StandsIn (all : List Arg) (k : ℕ) (a : Arg) (q : ValueParser) : Type 0 where
  pub within : k < length all
  pub is : slice_index_or all k a ≡ a
  pub alone : (j : ℕ) (e : Arg) → j < length all →
      bytes_eq (slice_index_or all j e).id.now a.id.now ≡ true → j ≡ k
  pub named : a.id.now ≡ [] → ⊥
  pub own : IsAuto a → ⊥
  pub parser : a.value_parser ≡ Some q
  pub exact_case : a.ignore_case ≡ false

-- what has its id in the command as it was built has its rules
rules-of : (old : Command) (m : ArgMatches) (p : IsParsedFrom old m) (k : ℕ) (a : Arg) (q : ValueParser) →
    StandsIn (args_of old) k a q → (j : ℕ) (x : Arg) → j < length (args_of p.built) →
    slice_index_or (args_of p.built) j x ≡ x → bytes_eq x.id.now a.id.now ≡ true → SameRules a x
rules-of old m p k a q s j x low is same =
    subst (λ (b : Arg). SameRules b x) s.is
    (same_rules_by_id old m p k a s.within
    (λ i e high eq. s.alone i e high
    (subst (λ (b : Arg). bytes_eq (slice_index_or (args_of old) i e).id.now b.id.now ≡ true) s.is eq))
    (λ auto. s.own (subst IsAuto s.is auto)) j x low is
    (subst (λ (b : Arg). bytes_eq x.id.now b.id.now ≡ true) (sym s.is) same))

reading-of : (old : Command) (m : ArgMatches) (p : IsParsedFrom old m) (k : ℕ) (a : Arg) (q : ValueParser) →
    StandsIn (args_of old) k a q → (r : Reading) → HasReading p.built a.id.now r → r ≡ reading_of q
reading-of old m p k a q s r any =
    let rules = rules-of old m p k a q s any.0 any.1 any.2 any.3 any.4.0 in
    sym any.4.1 ∙ ap (λ o. reading_of (parser_of_value o)) (rules.parser q s.parser)

accepted-of : (old : Command) (m : ArgMatches) (p : IsParsedFrom old m) (k : ℕ) (a : Arg) (q : ValueParser) →
    StandsIn (args_of old) k a q → (text : List ℕ) → PassesArg p.built a.id.now text → Accepts false q text
accepted-of old m p k a q s text any =
    let rules = rules-of old m p k a q s any.0 any.1 any.2 any.3 any.4.0 in
    subst (λ (w : ValueParser). Accepts false w text) (ap parser_of_value (rules.parser q s.parser))
    (subst (λ (b : Bool). Accepts b (parser_of any.1) text) (rules.ignore_case ∙ s.exact_case) any.4.1)

-- what the first value of an entry is
first-passes : (P : Bor (List ℕ) → Type 0) (how : Reading) (vs : List (Bor (List ℕ))) (read : List ℕ) → All P vs →
    option_map (λ s. read_as how s.now) (slice_get vs 0) ≡ Some read →
    (v : Bor (List ℕ)) × (read ≡ read_as how v.now) × P v
first-passes P how [] read all e = cc
first-passes P how (v ∷ vs) read all e =
    (v, ap (λ (o : Option (List ℕ)). unwrap_or o read) (sym e), All-get_or P (v ∷ vs) 0 v (omega arith) all)

-- what an entry gives
entry-passed : (c : Command) (id : List ℕ) (q : ValueParser) (x : MatchedArg) (e : Entry) (read : List ℕ) →
    groups_of c ≡ [] → (id ≡ [] → ⊥) → ((r : Reading) → HasReading c id r → r ≡ reading_of q) →
    ((text : List ℕ) → PassesArg c id text → Accepts false q text) → e.1 ≡ x → e.0.now ≡ id → EntryPasses c e →
    option_map (λ s. read_as x.reading s.now) (slice_get x.vals.items 0) ≡ Some read → Passed q read
entry-passed c id q x e read no_groups named reads accepts same_x key pass found =
    let no_group : e.1.is_group ≡ true → ⊥ = λ g. elim (pass.3 g) [
      | inl empty ↦ named (sym key ∙ empty)
      | inr lots ↦
          let bad : 0 < 0 = rw no_groups at lots in
          absurd (omega arith)
    ] in
    let all : All (λ v. PassesArg c id v.now) x.vals.items = elim pass.0 [
      | inl g ↦ absurd (no_group g)
      | inr vals ↦ subst (λ (w : List ℕ). All (λ v. PassesArg c w v.now) x.vals.items) key (rw same_x at vals)
    ] in
    let how : x.reading ≡ reading_of q = elim pass.4 [
      | inl g ↦ absurd (no_group g)
      | inr h ↦ ap (λ (y : MatchedArg). y.reading) (sym same_x)
          ∙ reads e.1.reading (subst (λ (w : List ℕ). HasReading c w e.1.reading) key h)
    ] in
    finish (first-passes (λ v. PassesArg c id v.now) x.reading x.vals.items read all found) how
  where
    finish : (v : Bor (List ℕ)) × (read ≡ read_as x.reading v.now) × PassesArg c id v.now → x.reading ≡ reading_of q →
        Passed q read
    finish first how = record {
      text = first.0.now;
      is = subst (λ (r : Reading). read ≡ read_as r first.0.now) how first.1;
      accepted = accepts first.0.now first.2;
    }

-- what a getter reads passed
pub read-passed : (old : Command) (m : ArgMatches) (p : IsParsedFrom old m) (k : ℕ) (a : Arg) (q : ValueParser) →
    groups_of p.built ≡ [] → (out-Command old).has_globals ≡ false → StandsIn (args_of old) k a q → (read : List ℕ) →
    one_text (found_of m) a.id.now ≡ Some read → Passed q read
read-passed old m p k a q no_groups globals s read = go (matched_of (found_of m) a.id.now) refl
  where
    step : (x : MatchedArg) →
        ((e : Entry) × (e.1 ≡ x) × (bytes_eq e.0.now a.id.now ≡ true) × EntryPasses p.built e) →
        option_map (λ s. read_as x.reading s.now) (slice_get x.vals.items 0) ≡ Some read → Passed q read
    step x got found =
        entry-passed p.built a.id.now q x got.0 read no_groups s.named (reading-of old m p k a q s)
        (accepted-of old m p k a q s) got.1 ((bytes_eq-Decides got.0.0.now a.id.now).0 got.2) got.3 found

    go : (o : Option MatchedArg) → matched_of (found_of m) a.id.now ≡ o →
        one_text (found_of m) a.id.now ≡ Some read → Passed q read
    go None e found = let bad : None ≡ Some read = rw e at found in cc
    go (Some x) e found =
        step x
        (entry_by_id (EntryPasses p.built) (found_of m).entries.items a.id.now x
        (p.parsed (p.from.globals ∙ globals)).values e)
        (rw e at found)
