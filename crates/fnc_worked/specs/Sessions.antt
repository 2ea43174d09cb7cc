-- What is claimed of a worked session: that its journal is one that `replay` may leave, and which lines it prints.
use Prim.Native.String.{String as Quoted}
use Rattle.std.specs.Prelude.{◌≡◌, List, ◌++◌, ℕ, Some, None, codes, flat_map}
use Rattle.fnc_journal.specs.declared.entry.Entry.{Entry}
use Rattle.fnc_journal.specs.declared.outcome.Rule.{Rule}
use Rattle.fnc_journal.specs.Lawful.{Lawful, Calm, fault}
use Rattle.fnc_journal.specs.Driven.{Driven}
use Rattle.fnc_journal.specs.Line.{answers_text, end_line}
use Rattle.fnc_worked.specs.Entries.{journal}

-- a session: the entries of its journal, the oldest first, and the lines that it prints
pub record Session : Type 0 where
  pub entries : List Entry
  pub output : List Quoted

-- lines, each with its line feed
abbrev pub lines : List Quoted → List ℕ
lines texts = flat_map (λ text. codes text ++ codes "\n") texts

-- the journal keeps every rule, each input was served in full, and these lines are printed of it
pub record IsReplay (s : Session) : Type 0 where
  pub no_fault : fault (journal s.entries) ≡ None
  pub lawful : Lawful (journal s.entries)
  pub calm : Calm (journal s.entries)
  pub driven : Driven (journal s.entries)
  pub output : answers_text (journal s.entries) ++ end_line (journal s.entries) ≡ lines s.output

-- the first entry that breaks a rule is that of this index, counted from 0, and this is the first rule that it breaks
pub record Breaks (index : ℕ) (rule : Rule) (entries : List Entry) : Type 0 where
  pub first : fault (journal entries) ≡ Some (record { index = index; rule = rule })
  pub unlawful : ¬ Lawful (journal entries)

-- the journal keeps every rule, but some input was not served in full
pub record IsIdle (entries : List Entry) : Type 0 where
  pub lawful : Lawful (journal entries)
  pub calm : Calm (journal entries)
  pub not_driven : ¬ Driven (journal entries)

-- the journal keeps every rule and each input was served in full, but a start came while an answer was due
pub record IsRestless (entries : List Entry) : Type 0 where
  pub lawful : Lawful (journal entries)
  pub driven : Driven (journal entries)
  pub not_calm : ¬ Calm (journal entries)
