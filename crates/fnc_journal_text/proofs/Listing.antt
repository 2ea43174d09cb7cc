-- A list that is written item by item.
use Rattle.std.proofs.Common.{◌≡◌, ◌<◌, ◌+◌, ℕ, List, [], ◌∷◌, ◌++◌, length, drop, get_or, map, codes, decimal, refl, ap, ◌∙◌, sym, append_assoc, append-nil}
use Rattle.std.proofs.lemmas.List.{drop_more}
use Rattle.fnc_journal.specs.declared.definition.Delay.{Delay}
use Rattle.fnc_journal.specs.declared.definition.Parameter.{Parameter}
use Rattle.fnc_journal.specs.declared.names.Pair.{Pair}
use Rattle.fnc_journal.specs.Line.{escaped}
use Rattle.fnc_journal_text.specs.declared.parts.Part.{Part}
use Rattle.fnc_journal_text.specs.Parts.{part_text, parts_text}
use Rattle.fnc_journal_text.specs.Spelled.{listed, spaced, port_text, delay_text, own_word, parameter_word, flag_text}

item-next : {X : Type 0} (xs : List X) (i : ℕ) (x : X) → i < length xs → x ≡ get_or xs i x → drop i xs ≡ x ∷ drop (i + 1) xs
item-next xs i x l is = drop_more xs i x l ∙ ap (λ y. y ∷ drop (i + 1) xs) (sym is)

-- what is printed of the parts from one on begins with that one
pub parts-next : (ps : List Part) (i : ℕ) (p : Part) → i < length ps → p ≡ get_or ps i p → parts_text (drop i ps) ≡ part_text p ++ parts_text (drop (i + 1) ps)
parts-next ps i p l is = ap parts_text (item-next ps i p l is)

-- a list from an item on begins with what stands before it and the item
pub listed-next : {X : Type 0} (before between : List ℕ) (spell : X → List ℕ) (xs : List X) (i : ℕ) (x : X) (piece : List ℕ) → i < length xs → x ≡ get_or xs i x →
    piece ≡ before ++ spell x → listed before between spell (drop i xs) ≡ piece ++ listed between between spell (drop (i + 1) xs)
listed-next before between spell xs i x piece l is e =
    ap (listed before between spell) (item-next xs i x l is) ∙ ap (λ p. p ++ listed between between spell (drop (i + 1) xs)) (sym e)

-- so do words with a space before each
pub spaced-next : {X : Type 0} (word : X → List ℕ) (xs : List X) (i : ℕ) (x : X) (piece : List ℕ) → i < length xs → x ≡ get_or xs i x → piece ≡ codes " " ++ word x →
    spaced (map word (drop i xs)) ≡ piece ++ spaced (map word (drop (i + 1) xs))
spaced-next word xs i x piece l is e =
    ap (λ ys. spaced (map word ys)) (item-next xs i x l is) ∙ ap (λ p. p ++ spaced (map word (drop (i + 1) xs))) (sym e)

pub name-piece : (before name text : List ℕ) → text ≡ name → before ++ (escaped text ++ []) ≡ before ++ escaped name
name-piece before name text e = rw e (ap (λ xs. before ++ xs) (append-nil (escaped name)))

pub port-piece : (before : List ℕ) (p : Pair) (name value : List ℕ) → name ≡ p.name → value ≡ p.value →
    before ++ (escaped name ++ (codes ":" ++ (escaped value ++ []))) ≡ before ++ port_text p
port-piece before p name value n v = rw (n, v) (joined (escaped p.name) (escaped p.value))
  where
    joined : (x y : List ℕ) → before ++ (x ++ (codes ":" ++ (y ++ []))) ≡ before ++ (x ++ codes ":" ++ y)
    joined x y = simp (append_assoc, append-nil) refl

pub delay-piece : (before : List ℕ) (d : Delay) (name : List ℕ) → name ≡ d.name →
    before ++ (escaped name ++ (codes ":" ++ (decimal d.ms ++ []))) ≡ before ++ delay_text d
delay-piece before d name n = rw n (joined (escaped d.name) (decimal d.ms))
  where
    joined : (x y : List ℕ) → before ++ (x ++ (codes ":" ++ (y ++ []))) ≡ before ++ (x ++ codes ":" ++ y)
    joined x y = simp (append_assoc, append-nil) refl

pub own-piece : (o : Pair) (name value : List ℕ) → name ≡ o.name → value ≡ o.value →
    codes " o." ++ (escaped name ++ (codes "=" ++ (escaped value ++ []))) ≡ codes " " ++ own_word o
own-piece o name value n v = rw (n, v) (joined (escaped o.name) (escaped o.value))
  where
    joined : (x y : List ℕ) → codes " o." ++ (x ++ (codes "=" ++ (y ++ []))) ≡ codes " " ++ (codes "o." ++ x ++ codes "=" ++ y)
    joined x y = simp (append_assoc, append-nil) refl

pub parameter-piece : (p : Parameter) (name flag : List ℕ) → name ≡ p.name → flag ≡ flag_text p.required →
    codes " p." ++ (escaped name ++ (codes "=" ++ (flag ++ []))) ≡ codes " " ++ parameter_word p
parameter-piece p name flag n f = rw (n, f) (joined (escaped p.name) (flag_text p.required))
  where
    joined : (x y : List ℕ) → codes " p." ++ (x ++ (codes "=" ++ (y ++ []))) ≡ codes " " ++ (codes "p." ++ x ++ codes "=" ++ y)
    joined x y = simp (append_assoc, append-nil) refl

-- words one after another
pub spaced-append : (xs ys : List (List ℕ)) → spaced (xs ++ ys) ≡ spaced xs ++ spaced ys
spaced-append [] ys = refl
spaced-append (x ∷ xs) ys = ap (λ r. (codes " " ++ x) ++ r) (spaced-append xs ys) ∙ sym (append_assoc (codes " " ++ x) (spaced xs) (spaced ys))
