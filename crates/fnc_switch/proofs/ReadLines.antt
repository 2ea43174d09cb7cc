-- Reading the lines of a switch one after the other, as a loop does.
use Rattle.std.proofs.Common.{ℕ, ◌+◌, ◌<◌, List, [], ◌∷◌, ◌++◌, Result, Ok, Err, Option, Some, None, length, ◌≡◌, refl, sym, ap, ◌∙◌, append_assoc, append-nil, arith}
use Rattle.std.proofs.lemmas.List.{length-append}
use Rattle.fnc_agent_api.specs.Cuts.{before, after, lines_of}
use Rattle.fnc_agent_api.proofs.LinesCut.{lines_of_cut}
use Rattle.fnc_switch.specs.declared.plug.Plug.{Plug}
use Rattle.fnc_switch.specs.declared.switch.SwitchFault.{SwitchFault}
use Rattle.fnc_switch.specs.Switches.{before_plugs, plug_at, plugs_from, Gains}

-- the plugs so far, with those of the lines that are left
abbrev pub after_plugs : List Plug → Result (List Plug) SwitchFault → Result (List Plug) SwitchFault
after_plugs front (Ok ps) = Ok (front ++ ps)
after_plugs front (Err fault) = Err fault

regrouped : (front : List Plug) (p : Plug) (number : ℕ) (rest : Result (List Plug) SwitchFault)
    → after_plugs (front ++ p ∷ []) rest ≡ after_plugs front (before_plugs number (Some p) rest)
regrouped front p number (Ok ps) = ap (λ (xs : List Plug). Ok xs) (simp append_assoc)
regrouped front p number (Err fault) = refl

gained : (old new : List Plug) (number : ℕ) (said : Option Plug) (rest : Result (List Plug) SwitchFault)
    → Gains old new said → after_plugs new rest ≡ after_plugs old (before_plugs number said rest)
gained old new number None rest g = absurd g
gained old new number (Some p) rest g = ap (λ ps. after_plugs ps rest) g ∙ regrouped old p number rest

longer : (old new : List Plug) (said : Option Plug) → Gains old new said → length new ≡ length old + 1
longer old new None g = absurd g
longer old new (Some p) g = ap length g ∙ length-append old (p ∷ [])

-- after one more line
pub goes_on : (old new : List Plug) (rest : List ℕ) (total : Result (List Plug) SwitchFault) → 0 < length rest
    → Gains old new (plug_at (length old + 1) (before 10 rest))
    → after_plugs old (plugs_from (length old + 1) (lines_of rest)) ≡ total
    → after_plugs new (plugs_from (length new + 1) (lines_of (after 10 rest))) ≡ total
goes_on old new rest total l g so_far =
    ap (λ n. after_plugs new (plugs_from (n + 1) (lines_of (after 10 rest))))
    (longer old new (plug_at (length old + 1) (before 10 rest)) g)
    ∙ gained old new (length old + 1) (plug_at (length old + 1) (before 10 rest))
    (plugs_from (length old + 1 + 1) (lines_of (after 10 rest))) g
    ∙ ap (λ ls. after_plugs old (plugs_from (length old + 1) ls)) (sym (lines_of_cut rest l))
    ∙ so_far

-- at a bad line
pub ends : (plugs : List Plug) (rest : List ℕ) (total : Result (List Plug) SwitchFault) → 0 < length rest
    → plug_at (length plugs + 1) (before 10 rest) ≡ None
    → after_plugs plugs (plugs_from (length plugs + 1) (lines_of rest)) ≡ total
    → total ≡ Err (SwitchFault.BadLine (length plugs + 1))
ends plugs rest total l bad so_far =
    sym so_far ∙ ap (λ ls. after_plugs plugs (plugs_from (length plugs + 1) ls)) (lines_of_cut rest l)
    ∙ ap (λ said. after_plugs plugs (before_plugs (length plugs + 1) said
    (plugs_from (length plugs + 1 + 1) (lines_of (after 10 rest))))) bad

-- at the end
pub is_done : (plugs : List Plug) (number : ℕ) (rest : List ℕ) (total : Result (List Plug) SwitchFault)
    → length rest ≡ 0 → after_plugs plugs (plugs_from number (lines_of rest)) ≡ total → total ≡ Ok plugs
is_done plugs number [] total e so_far = sym so_far ∙ ap (λ (xs : List Plug). Ok xs) (append-nil plugs)
is_done plugs number (b ∷ bs) total e so_far = absurd (omega arith)
