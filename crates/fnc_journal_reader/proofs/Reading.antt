-- Parts that are read one after another.
use Rattle.std.proofs.Common.{
  ◌≡◌,
  ℕ,
  List,
  [],
  ◌∷◌,
  ◌++◌,
  Bool,
  true,
  false,
  ◌||◌,
  Result,
  Ok,
  Err,
  refl,
  ap,
  ap₂,
  sym,
  ◌∙◌,
  append_assoc,
  append-nil,
}
use Rattle.std.specs.Prelude.{bytes_eq}
use Rattle.std.specs.List.{list_any}
use Rattle.fnc_journal_reader.specs.declared.fault.EntryFault.{EntryFault}
use Rattle.fnc_journal_reader.specs.Cuts.{front, after, parts}
use Rattle.fnc_journal_reader.specs.Reads.{◌>>=◌, Fails, each}
use Rattle.fnc_journal_reader.specs.Values.{has_word}
use Rattle.fnc_journal_reader.proofs.Cutting.{IsCut}

-- items that were read, before what reading the rest gives
abbrev pub onto : {X : Type 0} → List X → Result (List X) EntryFault → Result (List X) EntryFault
onto items (Ok xs) = Ok (items ++ xs)
onto items (Err fault) = Err fault

onto-more : {X : Type 0} (items : List X) (x : X) (rest : Result (List X) EntryFault) →
    onto items (rest >>= λ xs. Ok (x ∷ xs)) ≡ onto (items ++ x ∷ []) rest
onto-more items x (Ok xs) = ap Ok (sym (append_assoc items (x ∷ []) xs))
onto-more items x (Err fault) = refl

-- an item joins those that were read
pub onto-next : {X : Type 0} (read : List ℕ → Result X EntryFault) (sep : ℕ) (text : List ℕ) (items : List X) (x : X) →
    IsCut sep text → read (front sep text) ≡ Ok x →
    onto items (each read (parts sep text)) ≡ onto (items ++ x ∷ []) (each read (parts sep (after sep text)))
onto-next read sep text items x cut e =
    ap (λ ps. onto items (each read ps)) cut.cut
    ∙ ap (λ one. onto items (one >>= λ y. each read (parts sep (after sep text)) >>= λ ys. Ok (y ∷ ys))) e
    ∙ onto-more items x (each read (parts sep (after sep text)))

-- the fault of an item is that of all
pub onto-fault : {X : Type 0} (read : List ℕ → Result X EntryFault) (sep : ℕ) (text : List ℕ) (items : List X) (fault : EntryFault) (all : Result (List X) EntryFault) → IsCut sep text →
    Fails fault (read (front sep text)) → onto items (each read (parts sep text)) ≡ all → Fails fault all
onto-fault read sep text items EntryFault.NoMemory all cut f e = tt
onto-fault read sep text items EntryFault.Malformed all cut f e =
    sym e
    ∙ ap (λ ps. onto items (each read ps)) cut.cut
    ∙ ap (λ one. onto items (one >>= λ y. each read (parts sep (after sep text)) >>= λ ys. Ok (y ∷ ys))) f

-- nothing is left
pub onto-end : {X : Type 0} (read : List ℕ → Result X EntryFault) (sep : ℕ) (text : List ℕ) (items : List X) (all : Result (List X) EntryFault) → text ≡ [] →
    onto items (each read (parts sep text)) ≡ all → all ≡ Ok items
onto-end read sep text items all none e =
    sym e ∙ ap (λ t. onto items (each read (parts sep t))) none ∙ ap Ok (append-nil items)

-- a word in a list
pub has-next : (text word : List ℕ) → IsCut 44 text →
    has_word text word ≡ (bytes_eq word (front 44 text) || has_word (after 44 text) word)
has-next text word cut = ap (list_any (bytes_eq word)) cut.cut

pub has-found : (text word w part : List ℕ) → IsCut 44 text → true ≡ bytes_eq w part → w ≡ word → part ≡ front 44 text →
    true ≡ has_word text word
has-found text word w part cut same e f =
    same ∙ ap₂ bytes_eq e f ∙ go (bytes_eq word (front 44 text)) (same ∙ ap₂ bytes_eq e f)
    ∙ sym (has-next text word cut)
  where
    go : (b : Bool) → true ≡ b → b ≡ (b || has_word (after 44 text) word)
    go true h = refl
    go false h = absurd cc

pub has-passed : (text word w part rest : List ℕ) → IsCut 44 text → false ≡ bytes_eq w part → w ≡ word →
    part ≡ front 44 text → rest ≡ after 44 text → has_word rest word ≡ has_word text word
has-passed text word w part rest cut other e f g =
    ap (λ t. has_word t word) g ∙ go (bytes_eq word (front 44 text)) (other ∙ ap₂ bytes_eq e f)
    ∙ sym (has-next text word cut)
  where
    go : (b : Bool) → false ≡ b → has_word (after 44 text) word ≡ (b || has_word (after 44 text) word)
    go false h = refl
    go true h = absurd cc
