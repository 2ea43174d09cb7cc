-- What a parse finds that takes the words of a command whose arguments are distinct.
use Rattle.std.proofs.Common.{ℕ, List, [], ◌≡◌, ◌<◌, ◌∙◌, true, Some, None, sym, ap, subst, length, map}
use Rattle.std.specs.Prelude.{if◌then◌else◌}
use Rattle.std.specs.List.{All, slice_index_or}
use Rattle.std.specs.Str.{bytes_eq}
use Rattle.std.proofs.lemmas.List.{get_or-map, length-map}
use Rattle.clap.specs.Words.{App, IsParsedFrom, Kinds, Rule, Text, app_of, args_of, fault_of, found_of}
use Rattle.clap.specs.Words.{matches_of, rows_of, rule_of}
use Rattle.clap.specs.Walk.{is_empty}
use Rattle.clap.specs.declared.builder.arg.Arg.{Arg}
use Rattle.clap.specs.declared.builder.command.Command.{Command}
use Rattle.clap.specs.declared.builder.value_parser.ValueParser.{ValueParser}
use Rattle.clap.specs.declared.parser.matches.ArgMatches.{ArgMatches}
use Rattle.clap.proofs.WalkLemmas.{one_text-rows}
use Rattle.fnc_words.specs.Making.{Finds, HasPassed, IsExact, IsMadeAs, are_distinct}
use Rattle.fnc_words.proofs.Places.{IsOwn, alone-at, at-place, own-added, own-at, own-named}
use Rattle.fnc_words.proofs.Reading.{StandsIn, read-passed}

-- an argument among those of a command, whose rules are distinct
stands : (all : List Arg) (k : ℕ) (a : Arg) (q : ValueParser) → are_distinct (map rule_of all) ≡ true → k < length all →
    slice_index_or all k a ≡ a → a.value_parser ≡ Some q → StandsIn all k a q
stands all k a q distinct low is parser = record {
  within = low;
  is = is;
  alone = alone;
  named = own-named a own;
  own = own-added a own;
  parser = parser;
  exact_case = own.exact_case;
}
  where
    count : length (map rule_of all) ≡ length all
    count = length-map all rule_of

    rule-at : (j : ℕ) (e : Arg) → j < length all →
        slice_index_or (map rule_of all) j (rule_of e) ≡ rule_of (slice_index_or all j e)
    rule-at j e below = get_or-map rule_of all j e (rule_of e) below

    own : IsOwn (rule_of a)
    own =
        subst IsOwn (rule-at k a low ∙ ap rule_of is)
        (own-at (map rule_of all) k (rule_of a) distinct (subst (λ n. k < n) (sym count) low))

    alone : (j : ℕ) (e : Arg) → j < length all → bytes_eq (slice_index_or all j e).id.now a.id.now ≡ true → j ≡ k
    alone j e below same =
        alone-at (map rule_of all) j k (rule_of e) (rule_of a) distinct (subst (λ n. j < n) (sym count) below)
        (subst (λ n. k < n) (sym count) low)
        (subst (λ (r : Rule). bytes_eq (slice_index_or (map rule_of all) j (rule_of e)).id r.id ≡ true)
        (sym (rule-at k a low ∙ ap rule_of is))
        (subst (λ (r : Rule). bytes_eq r.id (rule_of a).id ≡ true) (sym (rule-at j e below)) same))

module _ (app : App) (command : Command) (m : ArgMatches) (made : IsMadeAs app command) (exact : IsExact app)
    (p : IsParsedFrom command m) where
  rules : map rule_of (args_of command) ≡ app.top.rules
  rules = ap (λ (a : App). a.top.rules) made.shape

  passed-at : (k : ℕ) (d : Rule) → k < length (args_of command) →
      (a : Arg) × (slice_index_or (args_of command) k a ≡ a) →
      HasPassed (rows_of (found_of m)) (slice_index_or (map rule_of (args_of command)) k d)
  passed-at k d low at =
      subst (HasPassed (rows_of (found_of m)))
      (sym (get_or-map rule_of (args_of command) k at.0 d low ∙ ap rule_of at.1))
      (λ q read parser found.
      read-passed command m p k at.0 q (p.from.plain made.plain).1 made.local
      (stands (args_of command) k at.0 q (subst (λ (rs : List Rule). are_distinct rs ≡ true) (sym rules) exact.distinct)
      low at.1 parser) read (one_text-rows (found_of m) at.0.id.now ∙ found))

  -- each value passed the parser of its argument
  all-passed : All (HasPassed (rows_of (found_of m))) app.top.rules
  all-passed =
      subst (All (HasPassed (rows_of (found_of m)))) rules
      (λ k d low. passed-at k d (subst (λ n. k < n) count low)
      (at-place (args_of command) k (subst (λ n. k < n) count low)))
    where
      count : length (map rule_of (args_of command)) ≡ length (args_of command)
      count = length-map (args_of command) rule_of

  -- what a parse finds
  pub finds : (words : List Text) → fault_of (app_of command) words ≡ [] →
      rows_of (found_of m) ≡ matches_of (app_of command) words → Finds app words m
  finds words none rows = record {
    taken =
        ap (λ (kinds : Kinds). if is_empty kinds then Some (matches_of app words) else None)
        (ap (λ (a : App). fault_of a words) (sym made.shape) ∙ none)
        ∙ ap Some (sym (rows ∙ ap (λ (a : App). matches_of a words) made.shape));
    passed = all-passed;
  }
