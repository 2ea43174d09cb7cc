-- The pieces of the line of a start, one after another, are that line.
use Rattle.std.proofs.Common.{◌≡◌, ℕ, List, [], ◌++◌, codes, decimal, refl, ap, ap₂, ◌∙◌, append_assoc, append-nil}
use Rattle.fnc_journal.specs.declared.entry.Kind.{Kind}
use Rattle.fnc_journal.specs.Line.{escaped, kind_word, start_line}

-- a line of these words and numbers
abbrev spelled : (run number device word target : List ℕ) → List ℕ
spelled run number device word target =
    codes "start " ++ run ++ codes " " ++ device ++ codes " " ++ word ++ codes " " ++ target ++ codes " try " ++ number
    ++ codes "\n"

joined : (a b c d e f g h i j k : List ℕ) →
    a ++ (b ++ (c ++ (d ++ (e ++ (f ++ (g ++ (h ++ (i ++ (j ++ (k ++ []))))))))))
    ≡ a ++ b ++ c ++ d ++ e ++ f ++ g ++ h ++ i ++ j ++ k
joined a b c d e f g h i j k = simp (append_assoc, append-nil) refl

pub start-text : (run begun attempt number : ℕ) (kind : Kind) (device name word target node : List ℕ) → run ≡ begun →
    device ≡ name → word ≡ kind_word kind → target ≡ node → attempt ≡ number →
    codes "start "
    ++ (decimal run
    ++ (codes " "
    ++ (escaped device
    ++ (codes " "
    ++ (word ++ (codes " " ++ (escaped target ++ (codes " try " ++ (decimal attempt ++ (codes "\n" ++ []))))))))))
    ≡ start_line begun name kind node number
start-text run begun attempt number kind device name word target node b d w t n =
    joined (codes "start ") (decimal run) (codes " ") (escaped device) (codes " ") word (codes " ") (escaped target)
    (codes " try ") (decimal attempt) (codes "\n")
    ∙ ap₂ (λ (x y : List ℕ). spelled (decimal run) (decimal attempt) (escaped x) y (escaped target)) d w
    ∙ ap₂ (λ (x : List ℕ) (m : ℕ). spelled (decimal run) (decimal m) (escaped name) (kind_word kind) (escaped x)) t n
    ∙ ap (λ (m : ℕ). spelled (decimal m) (decimal number) (escaped name) (kind_word kind) (escaped node)) b
