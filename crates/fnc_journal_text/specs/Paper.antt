-- The text of a journal, in its two forms.
use Rattle.std.specs.Prelude.{ℕ, List, [], ◌∷◌, ◌++◌, ◌==◌, if◌then◌else◌, length, codes}
use Rattle.fnc_journal.specs.declared.entry.Entry.{Entry}
use Rattle.fnc_journal.specs.History.{History}
use Rattle.fnc_journal.specs.Line.{answers_text}
use Rattle.fnc_journal_text.specs.declared.form.Form.{Form}
use Rattle.fnc_journal_text.specs.Spelled.{line_of}

-- the first line: which text this is, and of which version
abbrev pub head_line : List ℕ
head_line = codes "fencer-journal 3"

-- what is printed of an entry: its line and the line feed
abbrev pub printed : Entry → List ℕ
printed e = line_of e ++ codes "\n"

-- the lines of the entries in order
abbrev pub journal_text : History → List ℕ
journal_text [] = []
journal_text (e ∷ before) = journal_text before ++ printed e

-- the text of a journal: the lines of its answers in order, or the first line and a line for each entry
abbrev pub text : History → Form → List ℕ
text h Form.Answers = answers_text h
text h Form.Journal = (head_line ++ codes "\n") ++ journal_text h

-- what is printed of the entry of an index, counted from the oldest
abbrev pub line_at : ℕ → History → List ℕ
line_at n [] = []
line_at n (e ∷ before) = if n == length before then printed e else line_at n before
