-- What is said of a journal at the end of its text: the verdict on it, or the answers to the requests for a node.
use Rattle.std.specs.Prelude.{
  ℕ,
  List,
  [],
  ◌∷◌,
  ◌++◌,
  ◌==◌,
  if◌then◌else◌,
  length,
  codes,
  decimal,
  bytes_eq,
  Option,
  Some,
  None,
}
use Rattle.fnc_journal.specs.declared.entry.Answer.{Answer}
use Rattle.fnc_journal.specs.declared.event.Event.{Event}
use Rattle.fnc_journal.specs.declared.event.Request.{Request}
use Rattle.fnc_journal.specs.declared.outcome.Outcome.{Outcome}
use Rattle.fnc_journal.specs.declared.outcome.Rule.{Rule}
use Rattle.fnc_journal.specs.Found.{request}
use Rattle.fnc_journal.specs.History.{History}
use Rattle.fnc_journal.specs.Lawful.{Fault, fault}
use Rattle.fnc_journal.specs.Line.{escaped, kind_word}
use Rattle.fnc_journal_text.specs.Spelled.{answer_text, answer_word}
use Rattle.fnc_audit.specs.declared.question.Question.{Question}

-- the outcome, where the text can be written, and the text
pub record Said : Type 0 where
  pub outcome : Outcome
  pub text : List ℕ

-- the word of a rule
abbrev pub rule_word : Rule → List ℕ
rule_word Rule.Order = codes "order"
rule_word Rule.Exit = codes "exit"
rule_word Rule.Start = codes "start"
rule_word Rule.Once = codes "once"
rule_word Rule.Reply = codes "reply"
rule_word Rule.Prompt = codes "prompt"

-- `lawful E`, with the number of entries, or `unlawful I RULE`
abbrev pub verdict_line : ℕ → Option Fault → List ℕ
verdict_line entries None = codes "lawful " ++ decimal entries ++ codes "\n"
verdict_line entries (Some f) = codes "unlawful " ++ decimal f.index ++ codes " " ++ rule_word f.rule ++ codes "\n"

-- the outcome by the first fault of a journal
abbrev pub verdict_outcome : Option Fault → Outcome
verdict_outcome None = Outcome.Finished
verdict_outcome (Some f) = Outcome.Unlawful f.index f.rule

-- the verdict on a journal: whether it is lawful, or else the first entry that breaks a rule, and the rule
abbrev pub verdict : History → Said
verdict h = record { outcome = verdict_outcome (fault h); text = verdict_line (length h) (fault h) }

-- `MOMENT CLIENT KIND ANSWER`
abbrev pub answer_line : ℕ → Request → Answer → List ℕ
answer_line moment asked answer =
    decimal moment ++ codes " " ++ escaped asked.client ++ codes " " ++ kind_word asked.kind ++ codes " "
    ++ answer_word answer
    ++ codes " " ++ answer_text answer ++ codes "\n"

-- the line of a reply to a request, where that is for the node
abbrev pub reply_line : List ℕ → ℕ → Answer → Option Request → List ℕ
reply_line node moment answer None = []
reply_line node moment answer (Some asked) =
    if bytes_eq node asked.target then answer_line moment asked answer else []

-- the line of an entry after those before it: of a reply, where the first request of its number before it is for the
-- node; no byte of any other
abbrev pub history_line : List ℕ → ℕ → Event → History → List ℕ
history_line node moment (Event.Reply reply) before =
    reply_line node moment reply.answer (request reply.req.0 before)
history_line node moment _ before = []

-- the lines of the entries in order
abbrev pub history_text : List ℕ → History → List ℕ
history_text node [] = []
history_text node (e ∷ before) = history_text node before ++ history_line node e.moment e.event before

-- the line of the entry of an index, counted from the oldest
abbrev pub history_at : List ℕ → ℕ → History → List ℕ
history_at node n [] = []
history_at node n (e ∷ before) =
    if n == length before then history_line node e.moment e.event before else history_at node n before

-- the answers to the requests for a node
abbrev pub answers_for : List ℕ → History → Said
answers_for node h = record { outcome = Outcome.Finished; text = history_text node h }

-- what is said to a question
abbrev pub said : Question → History → Said
said Question.Verdict h = verdict h
said (Question.Answers node) h = answers_for node.now h
