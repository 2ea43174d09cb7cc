-- What the words after each verb say.
use Rattle.std.specs.Prelude.{ℕ, List, [], ◌∷◌, Result, Ok, Err}
use Rattle.fnc_journal.specs.declared.cause.Cause.{Cause}
use Rattle.fnc_journal.specs.declared.entry.Exit.{Exit}
use Rattle.fnc_command.specs.declared.command.Command.{Command}
use Rattle.fnc_command.specs.Answers.{and_then}
use Rattle.fnc_command.specs.Cuts.{none, one, two}
use Rattle.fnc_command.specs.Fields.{name_of, agent_of, bytes_of, number_of, exit_of}

-- the word of `remove`
abbrev pub remove_of : List ℕ → Result Command Cause
remove_of word = and_then (name_of word) (λ name. Ok (Command.Remove name))

-- `remove NAME`
abbrev pub said_remove : List (List ℕ) → Result Command Cause
said_remove ws = and_then (one ws) remove_of

-- `pass`
abbrev pub said_pass : List (List ℕ) → Result Command Cause
said_pass ws = and_then (none ws) (λ nothing. Ok Command.Pass)

-- the words of `confirm`
abbrev pub confirm_of : List ℕ × List ℕ → Result Command Cause
confirm_of w =
    and_then (name_of w.0) (λ client. and_then (name_of w.1) (λ target. Ok (Command.Confirm client target)))

-- `confirm CLIENT TARGET`
abbrev pub said_confirm : List (List ℕ) → Result Command Cause
said_confirm ws = and_then (two ws) confirm_of

-- the words of `agent`: the description is bytes, which need not be a text here
abbrev pub agent_line : List ℕ × List ℕ → Result Command Cause
agent_line w =
    and_then (agent_of w.0) (λ name. and_then (bytes_of w.1) (λ json. Ok (Command.Agent name json)))

-- `agent NAME JSON`
abbrev pub said_agent : List (List ℕ) → Result Command Cause
said_agent ws = and_then (two ws) agent_line

-- the words after `exit`: two, and then the output, of which the word may be missing
abbrev pub exit_words : List (List ℕ) → Result (List ℕ × List ℕ × List ℕ) Cause
exit_words (run ∷ exit ∷ []) = Ok (run, exit, [])
exit_words (run ∷ exit ∷ output ∷ []) = Ok (run, exit, output)
exit_words (run ∷ exit ∷ output ∷ more ∷ ws) = Err Cause.ExtraWord
exit_words _ = Err Cause.MissingWord

-- how a run ended: the run, its exit and the bytes of its output
pub record Ended : Type 0 where
  pub run : ℕ
  pub exit : Exit
  pub output : List ℕ

-- what three such words say
abbrev pub ended_of : List ℕ × List ℕ × List ℕ → Result Ended Cause
ended_of w =
    and_then (number_of 4294967295 w.0) (λ run. and_then (exit_of w.1) (λ exit. and_then (bytes_of w.2) (λ output.
    Ok (record { run = run; exit = exit; output = output }))))

-- what the words after `exit` say
abbrev pub ended : List (List ℕ) → Result Ended Cause
ended ws = and_then (exit_words ws) ended_of

-- `exit RUN EXIT [OUTPUT]`
abbrev pub said_exit : List (List ℕ) → Result Command Cause
said_exit ws = and_then (ended ws) (λ e. Ok (Command.Exit (record { 0 = e.run }) e.exit e.output))
