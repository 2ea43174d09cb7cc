-- How what two calls did one after the other adds up.
use Rattle.std.proofs.Common.{◌≡◌, ◌≤◌, ◌+◌, ℕ, List, [], ◌++◌, length, take, drop, Option, Some, None}
use Rattle.std.proofs.Common.{arith, append_assoc, append-nil, take-append-drop, ap, sym, ◌∙◌}
use Rattle.std.proofs.Common.{length-append}
use Rattle.std.proofs.Math.Seq.{take-append-add}
use Rattle.fnc_outside.specs.Faults.{Rose}
use Rattle.fnc_outside.specs.Told.{WhereTold, Gains, Keeps}
use Rattle.fnc_outside.specs.Writes.{AppendsPart, HoldsPart}

-- what is added by two calls
pub gains-gains : {A : Type 0} (before between after : Option (List A)) (xs ys : List A) →
    Gains before between xs → Gains between after ys → Gains before after (xs ++ ys)
gains-gains before between None xs ys first second = tt
gains-gains before None (Some new) xs ys first second = absurd second
gains-gains None (Some middle) (Some new) xs ys first second = absurd first
gains-gains (Some old) (Some middle) (Some new) xs ys first second =
    second ∙ ap (λ zs. zs ++ ys) first ∙ append_assoc old xs ys

-- part of a piece after a whole one is part of both
pub gains-part : (before between after : Option (List ℕ)) (text piece : List ℕ) → Gains before between text →
    AppendsPart between after piece → AppendsPart before after (text ++ piece)
gains-part before between after text piece first second =
    record {
      count = length text + second.count;
      within = omega (arith, second.within, length-append text piece);
      gained =
          rw (take-append-add text piece second.count)
          (gains-gains before between after text (take second.count piece) first second.gained);
    }

-- what was added stays where the second call leaves all as it was
pub gains-keeps : {A : Type 0} (before between after : Option (List A)) (xs : List A) → Gains before between xs →
    Keeps between after → Gains before after xs
gains-keeps before between None xs first second = tt
gains-keeps before None (Some new) xs first second = absurd second
gains-keeps None (Some middle) (Some new) xs first second = absurd first
gains-keeps (Some old) (Some middle) (Some new) xs first second = second ∙ first

-- part of a piece was appended, so a part of all is held
pub holds-appended : (before after : Option (List ℕ)) (piece : List ℕ) → AppendsPart before after piece →
    HoldsPart before after piece
holds-appended before after piece part = record { lost = drop part.count piece; holds = go before after part.gained }
  where
    go : (before after : Option (List ℕ)) → Gains before after (take part.count piece) →
        WhereTold before after (λ old new. old ++ piece ≡ new ++ drop part.count piece)
    go before None gained = tt
    go None (Some new) gained = absurd gained
    go (Some old) (Some new) gained =
        ap (λ xs. old ++ xs) (sym (take-append-drop part.count piece))
        ∙ sym (append_assoc old (take part.count piece) (drop part.count piece))
        ∙ ap (λ xs. xs ++ drop part.count piece) (sym gained)

-- a part is held of a text with more after it
pub holds-more : (before after : Option (List ℕ)) (text more : List ℕ) → HoldsPart before after text →
    HoldsPart before after (text ++ more)
holds-more before after text more part = record { lost = part.lost ++ more; holds = go before after part.holds }
  where
    go : (before after : Option (List ℕ)) → WhereTold before after (λ old new. old ++ text ≡ new ++ part.lost) →
        WhereTold before after (λ old new. old ++ (text ++ more) ≡ new ++ (part.lost ++ more))
    go before None holds = tt
    go None (Some new) holds = absurd holds
    go (Some old) (Some new) holds =
        sym (append_assoc old text more) ∙ ap (λ xs. xs ++ more) holds ∙ append_assoc new part.lost more

-- a part is held where all was added and a flush failed
pub gains-holds : (before between after : Option (List ℕ)) (text : List ℕ) → Gains before between text →
    HoldsPart between after [] → HoldsPart before after text
gains-holds before between after text first second =
    record { lost = second.lost; holds = go before between after first second.holds }
  where
    go : (before between after : Option (List ℕ)) → Gains before between text →
        WhereTold between after (λ old new. old ++ [] ≡ new ++ second.lost) →
        WhereTold before after (λ old new. old ++ text ≡ new ++ second.lost)
    go before between None first holds = tt
    go before None (Some new) first holds = absurd holds
    go None (Some middle) (Some new) first holds = absurd first
    go (Some old) (Some middle) (Some new) first holds = sym first ∙ sym (append-nil middle) ∙ holds

-- a part of a part is held where a flush failed after a write that had
pub holds-holds : (before between after : Option (List ℕ)) (text : List ℕ) → HoldsPart before between text →
    HoldsPart between after [] → HoldsPart before after text
holds-holds before between after text first second =
    record { lost = second.lost ++ first.lost; holds = go before between after first.holds second.holds }
  where
    go : (before between after : Option (List ℕ)) →
        WhereTold before between (λ old new. old ++ text ≡ new ++ first.lost) →
        WhereTold between after (λ old new. old ++ [] ≡ new ++ second.lost) →
        WhereTold before after (λ old new. old ++ text ≡ new ++ (second.lost ++ first.lost))
    go before between None whole part = tt
    go before None (Some new) whole part = absurd part
    go None (Some middle) (Some new) whole part = absurd whole
    go (Some old) (Some middle) (Some new) whole part =
        whole
        ∙ ap (λ xs. xs ++ first.lost) (sym (append-nil middle) ∙ part)
        ∙ append_assoc new second.lost first.lost

-- and the same part where it did not
pub holds-keeps : (before between after : Option (List ℕ)) (text : List ℕ) → HoldsPart before between text →
    Keeps between after → HoldsPart before after text
holds-keeps before between after text first second =
    record { lost = first.lost; holds = go before between after first.holds second }
  where
    go : (before between after : Option (List ℕ)) →
        WhereTold before between (λ old new. old ++ text ≡ new ++ first.lost) → Keeps between after →
        WhereTold before after (λ old new. old ++ text ≡ new ++ first.lost)
    go before between None holds same = tt
    go before None (Some new) holds same = absurd same
    go None (Some middle) (Some new) holds same = absurd holds
    go (Some old) (Some middle) (Some new) holds same = holds ∙ ap (λ xs. xs ++ first.lost) (sym same)

-- a count that rose earlier or later in a call rose in it
pub rose-then : (before between after : ℕ) → Rose before between → between ≤ after → Rose before after
rose-then before between after rose never_fell = omega (arith, rose, never_fell)

pub then-rose : (before between after : ℕ) → before ≤ between → Rose between after → Rose before after
then-rose before between after never_fell rose = omega (arith, rose, never_fell)
