-- Reading lines one after the other, as a loop does.
use Rattle.std.proofs.Common.{ℕ, ◌+◌, ◌<◌, List, [], ◌∷◌, ◌++◌, Result, Ok, Err, Some, None, length, ◌≡◌, refl, sym, ap, ◌∙◌, append_assoc, arith}
use Rattle.std.proofs.lemmas.List.{append-nil}
use Rattle.std.proofs.lemmas.Grind.{common_steps}
use Rattle.fnc_journal.specs.declared.names.Pair.{Pair}
use Rattle.fnc_agent_api.specs.declared.options.OptionFault.{OptionFault}
use Rattle.fnc_agent_api.specs.Blanks.{trimmed}
use Rattle.fnc_agent_api.specs.Cuts.{before, after, lines_of}
use Rattle.fnc_agent_api.specs.Options.{pairs_of, pair_of, after_pairs, then_pairs, Adds, Fails}
use Rattle.fnc_agent_api.proofs.LinesCut.{lines_of_cut}

-- nothing is added by a line that says nothing
pub adds_nothing : (old : List Pair) → Adds old old (Ok None)
adds_nothing old (Ok ps) = refl
adds_nothing old (Err fault) = refl

pub adds_pair : (old : List Pair) (p : Pair) → Adds old (old ++ p ∷ []) (Ok (Some p))
adds_pair old p (Ok ps) = ap (λ (xs : List Pair). Ok xs) (simp append_assoc)
adds_pair old p (Err fault) = refl

-- after one more line
pub goes_on : (old new : List Pair) (number : ℕ) (rest : List ℕ) (total : Result (List Pair) OptionFault)
    → 0 < length rest
    → Adds old new (pair_of number (trimmed (before 10 rest)))
    → after_pairs old (pairs_of number (lines_of rest)) ≡ total
    → after_pairs new (pairs_of (number + 1) (lines_of (after 10 rest))) ≡ total
goes_on old new number rest total l adds so_far =
    adds (pairs_of (number + 1) (lines_of (after 10 rest)))
    ∙ ap (λ ls. after_pairs old (pairs_of number ls)) (sym (lines_of_cut rest l)) ∙ so_far

-- at a bad line
pub ends : (fault : OptionFault) (old : List Pair) (number : ℕ) (rest : List ℕ)
    (total : Result (List Pair) OptionFault) → 0 < length rest
    → Fails fault (pair_of number (trimmed (before 10 rest))) → after_pairs old (pairs_of number (lines_of rest))
    ≡ total → Fails fault total
ends OptionFault.NoMemory old number rest total l bad so_far = tt
ends fault old number rest total l bad so_far =
    sym so_far ∙ ap (λ ls. after_pairs old (pairs_of number ls)) (lines_of_cut rest l)
    ∙ ap (λ said. after_pairs old (then_pairs said (pairs_of (number + 1) (lines_of (after 10 rest))))) bad

-- at the end
pub is_done : (pairs : List Pair) (number : ℕ) (rest : List ℕ) (total : Result (List Pair) OptionFault)
    → length rest ≡ 0
    → after_pairs pairs (pairs_of number (lines_of rest)) ≡ total → total ≡ Ok pairs
is_done pairs number [] total e so_far = sym so_far ∙ ap (λ (xs : List Pair). Ok xs) (append-nil pairs)
is_done pairs number (b ∷ bs) total e so_far = absurd (omega arith)

-- what follows a line is shorter
pub shorter : (rest : List ℕ) → 0 < length rest → length (after 10 rest) < length rest
shorter rest l = grind (arith, common_steps)
