-- The pieces of the line of an answer, one after another, are that line.
use Rattle.std.proofs.Common.{◌≡◌, ℕ, List, [], ◌++◌, codes, decimal, refl, ap₂, ◌∙◌, append_assoc, append-nil}
use Rattle.fnc_journal.specs.declared.entry.Answer.{Answer}
use Rattle.fnc_journal.specs.declared.event.Request.{Request}
use Rattle.fnc_journal.specs.Line.{escaped, kind_word}
use Rattle.fnc_journal_text.specs.Spelled.{answer_text, answer_word}
use Rattle.fnc_audit.specs.Said.{answer_line}

-- a line of these words
abbrev pub spelled : (moment client kind first second : List ℕ) → List ℕ
spelled moment client kind first second =
    moment ++ codes " " ++ client ++ codes " " ++ kind ++ codes " " ++ first ++ codes " " ++ second ++ codes "\n"

joined : (a b c d e f g h i j : List ℕ) →
    a ++ (b ++ (c ++ (d ++ (e ++ (f ++ (g ++ (h ++ (i ++ (j ++ [])))))))))
    ≡ a ++ b ++ c ++ d ++ e ++ f ++ g ++ h ++ i ++ j
joined a b c d e f g h i j = simp (append_assoc, append-nil) refl

pub answer-pieces : (moment : ℕ) (asked : Request) (answer : Answer) (client kind first second : List ℕ) →
    client ≡ asked.client → kind ≡ kind_word asked.kind → first ≡ answer_word answer → second ≡ answer_text answer →
    decimal moment
    ++ (codes " "
    ++ (escaped client
    ++ (codes " " ++ (kind ++ (codes " " ++ (first ++ (codes " " ++ (second ++ (codes "\n" ++ [])))))))))
    ≡ answer_line moment asked answer
answer-pieces moment asked answer client kind first second c k f s =
    joined (decimal moment) (codes " ") (escaped client) (codes " ") kind (codes " ") first (codes " ") second
    (codes "\n")
    ∙ ap₂ (λ (x y : List ℕ). spelled (decimal moment) (escaped x) y first second) c k
    ∙ ap₂ (λ (x y : List ℕ). spelled (decimal moment) (escaped asked.client) (kind_word asked.kind) x y) f s
