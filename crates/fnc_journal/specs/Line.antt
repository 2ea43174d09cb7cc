-- What is printed of a journal: the output line of each entry, and the line at its end.
-- Names are printed escaped: letters, digits and four marks stand for themselves, every other byte is `%` and two
-- hexadecimal digits.
use Rattle.std.specs.Prelude.{
  ℕ,
  List,
  [],
  ◌∷◌,
  ◌++◌,
  Bool,
  ◌==◌,
  ◌||◌,
  ◌&&◌,
  ◌/◌,
  ◌%◌,
  ◌+◌,
  if◌then◌else◌,
  nat_le,
  nat_lt,
  length,
  codes,
  decimal,
  option_map,
  unwrap_or,
}
use Rattle.std.specs.List.{flat_map}
use Rattle.fnc_journal.specs.declared.entry.Answer.{Answer}
use Rattle.fnc_journal.specs.declared.event.Event.{Event}
use Rattle.fnc_journal.specs.declared.entry.Kind.{Kind}
use Rattle.fnc_journal.specs.declared.definition.Registration.{Registration}
use Rattle.fnc_journal.specs.History.{History}
use Rattle.fnc_journal.specs.Found.{Asked, asked, asks, registration, replies}
use Rattle.fnc_journal.specs.Startable.{alive_runs}
use Rattle.fnc_journal.specs.Causes.{word_of}

-- whether a byte stands for itself: a letter, a digit, or one of - . _ ~
abbrev pub is_plain : ℕ → Bool
is_plain b =
    (nat_le 48 b && nat_le b 57) || (nat_le 65 b && nat_le b 90) || (nat_le 97 b && nat_le b 122)
    || (b == 45) || (b == 46) || (b == 95) || (b == 126)

-- a hexadecimal digit in capitals
abbrev pub hex_digit : ℕ → ℕ
hex_digit d = if nat_lt d 10 then 48 + d else 55 + d

-- what is printed of a byte
abbrev pub escaped_byte : ℕ → List ℕ
escaped_byte b = if is_plain b then b ∷ [] else 37 ∷ hex_digit (b / 16) ∷ hex_digit (b % 16) ∷ []

-- what is printed of a name
abbrev pub escaped : List ℕ → List ℕ
escaped name = flat_map escaped_byte name

-- the word of an action
abbrev pub kind_word : Kind → List ℕ
kind_word Kind.On = codes "on"
kind_word Kind.Off = codes "off"
kind_word Kind.Reboot = codes "reboot"
kind_word Kind.List = codes "list"
kind_word Kind.Status = codes "status"

-- the words of an answer
abbrev pub answer_words : Answer → List ℕ
answer_words (Answer.Passed l) = codes "ok level " ++ decimal l
answer_words Answer.Levels = codes "failed levels"
answer_words Answer.Time = codes "failed time"
answer_words Answer.NoDevice = codes "failed none"
answer_words Answer.Confirmed = codes "ok confirmed"

-- the name of a registration, nothing where there is no such registration
abbrev pub name_of : ℕ → History → List ℕ
name_of reg h = unwrap_or (option_map (λ (r : Registration). r.name) (registration reg h)) []

-- the target of a request, nothing where there is no such request
abbrev pub target_of : ℕ → History → List ℕ
target_of req h = unwrap_or (option_map (λ (a : Asked). a.target) (asked req h)) []

-- `start RUN DEVICE KIND TARGET try ATTEMPT`
abbrev pub start_line : ℕ → List ℕ → Kind → List ℕ → ℕ → List ℕ
start_line run device kind target attempt =
    codes "start " ++ decimal run ++ codes " " ++ escaped device ++ codes " " ++ kind_word kind ++ codes " "
    ++ escaped target
    ++ codes " try " ++ decimal attempt ++ codes "\n"

-- the line of an entry after those before it: of a start, a reply and a refusal; no byte of any other
abbrev pub line_of : Event → History → List ℕ
line_of (Event.Start start) before =
    start_line start.run.0 (name_of start.reg.0 before) start.kind (target_of start.req.0 before) start.attempt
line_of (Event.Reply reply) before =
    codes "answer " ++ decimal reply.req.0 ++ codes " " ++ answer_words reply.answer ++ codes "\n"
line_of (Event.Refused refusal) before =
    codes "refused " ++ decimal refusal.line ++ codes " " ++ word_of refusal.cause ++ codes "\n"
line_of _ before = []

-- the lines of the entries in order: the text of a journal in form Answers
abbrev pub answers_text : History → List ℕ
answers_text [] = []
answers_text (e ∷ before) = answers_text before ++ line_of e.event before

-- the last line of a session: how many requests were asked and answered, and how many runs are alive
abbrev pub end_line : History → List ℕ
end_line h =
    codes "end asked " ++ decimal (asks h) ++ codes " answered " ++ decimal (replies h)
    ++ codes " alive " ++ decimal (length (alive_runs h)) ++ codes "\n"

-- the line of the entry of an index, counted from the oldest
abbrev pub line_at : ℕ → History → List ℕ
line_at n [] = []
line_at n (e ∷ before) = if n == length before then line_of e.event before else line_at n before
