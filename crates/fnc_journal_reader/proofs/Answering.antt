-- What reading answers for the line of an entry.
use Rattle.std.proofs.Common.{◌≡◌, ℕ, List, Bool, true, false, refl, cond, Ok, Err, sym, ap, ◌∙◌, subst}
use Rattle.std.specs.Prelude.{Result, IsTrue, ◌&&◌}
use Rattle.std.specs.Prelude.{bytes_eq}
use Rattle.std.proofs.lemmas.Bool.{false≢true}
use Rattle.std.proofs.lemmas.Slice.Eq.{bytes_eq-Decides}
use Rattle.fnc_journal.specs.declared.entry.Entry.{Entry}
use Rattle.fnc_journal_reader.specs.declared.fault.EntryFault.{EntryFault}
use Rattle.fnc_journal.specs.EntryBounds.{is_within}
use Rattle.fnc_journal_reader.specs.Cuts.{words}
use Rattle.fnc_journal_reader.specs.Entries.{entry_of}
use Rattle.fnc_journal_reader.specs.Reads.{Fails, ◌>>=◌}
use Rattle.fnc_journal_reader.specs.Spells.{entry_in, spelled_by}
use Rattle.fnc_journal_text.specs.Spelled.{line_of}
use Rattle.fnc_journal_reader.specs.Typed.{IsTyped}
use Rattle.fnc_journal_reader.proofs.EntriesBack.{entry-back}
use Rattle.fnc_journal_reader.proofs.TypedBack.{entry-typed}

module _ (line : List ℕ) (e : Entry) (typed : IsTyped e) (within : is_within e ≡ true) (spelled : line_of e ≡ line)
  where
    read : entry_of (words line) ≡ Ok e
    read = ap (λ l. entry_of (words l)) (sym spelled) ∙ entry-back e typed within

    pub same-fault : (fault : EntryFault) → Fails fault (entry_of (words line)) → Fails fault (Ok e)
    same-fault fault f = subst (Fails fault) read f

    pub same-entry : (x : Entry) → entry_of (words line) ≡ Ok x → e ≡ x
    same-entry x f = let both : Ok e ≡ Ok x = sym read ∙ f in cc

    -- what was read is within the bounds, and the line is its spelling
    pub not-outside : (x : Entry) → entry_of (words line) ≡ Ok x → is_within x ≡ false → ⊥
    not-outside x f n = false≢true (sym n ∙ ap is_within (sym (same-entry x f)) ∙ within)

    pub not-other : (x : Entry) → entry_of (words line) ≡ Ok x → bytes_eq (line_of x) line ≡ false → ⊥
    not-other x f n =
        false≢true (sym n ∙ (bytes_eq-Decides (line_of x) line).1 (ap line_of (sym (same-entry x f)) ∙ spelled))

-- what a line is read as, where its words are not those of an entry
pub in-fault : (line : List ℕ) (fault : EntryFault) → Fails fault (entry_of (words line)) → Fails fault (entry_in line)
in-fault line EntryFault.NoMemory f = tt
in-fault line EntryFault.Malformed f = ap (λ (r : Result Entry EntryFault). r >>= spelled_by line) f

-- and where they are
pub in-entry : (line : List ℕ) (e : Entry) → entry_of (words line) ≡ Ok e → (b : Bool) →
    (is_within e && bytes_eq (line_of e) line) ≡ b → entry_in line ≡ cond b (Ok e) (Err EntryFault.Malformed)
in-entry line e read b p =
    ap (λ (r : Result Entry EntryFault). r >>= spelled_by line) read
    ∙ ap (λ (k : Bool). cond k (Ok e) (Err EntryFault.Malformed)) p

-- the line of an entry is read as it
pub in-spelling : (e : Entry) → IsTyped e → IsTrue (is_within e) → entry_in (line_of e) ≡ Ok e
in-spelling e typed within =
    let same : bytes_eq (line_of e) (line_of e) ≡ true = (bytes_eq-Decides (line_of e) (line_of e)).1 refl in
    in-entry (line_of e) e (entry-back e typed within) true (rw (within, same) refl)

-- and what a line is read as has that line
pub in-spelled : (line : List ℕ) (e : Entry) → entry_in line ≡ Ok e →
    IsTyped e × IsTrue (is_within e) × (line_of e ≡ line)
in-spelled line e r = go (entry_of (words line)) refl r
  where
    by : (x : Entry) → entry_of (words line) ≡ Ok x → (a : Bool) → is_within x ≡ a → (b : Bool) →
        bytes_eq (line_of x) line ≡ b → cond (a && b) (Ok x) (Err EntryFault.Malformed) ≡ Ok e →
        IsTyped e × IsTrue (is_within e) × (line_of e ≡ line)
    by x f true p true q s =
        let same : x ≡ e = cc in
        subst (λ (z : Entry). IsTyped z × IsTrue (is_within z) × (line_of z ≡ line)) same
        (entry-typed (words line) x f, p, (bytes_eq-Decides (line_of x) line).0 q)
    by x f true p false q s = cc
    by x f false p b q s = cc

    go : (w : Result Entry EntryFault) → entry_of (words line) ≡ w → (w >>= spelled_by line) ≡ Ok e →
        IsTyped e × IsTrue (is_within e) × (line_of e ≡ line)
    go (Ok x) f s = by x f (is_within x) refl (bytes_eq (line_of x) line) refl s
    go (Err fault) f s = cc
