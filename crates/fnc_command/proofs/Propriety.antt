-- Every line that is read is proper, and its command is one of its verb.
use Rattle.std.proofs.Common.{◌≡◌, ℕ, ◌≤◌, List, [], ◌∷◌, Bool, true, false, cond, Option, Some, None, Result, Ok, Err, IfOk, IfSome, IsTrue, refl, sym, arith, subst, lit≤}
use Rattle.std.specs.Prelude.{ok_or, bytes_eq, codes, is_none, unwrap_or}
use Rattle.std.specs.List.{list_all}
use Rattle.fnc_journal.specs.declared.limits.TheConstants.{DEFAULT_TOTAL}
use Rattle.fnc_journal.specs.declared.cause.Cause.{Cause}
use Rattle.fnc_text.specs.Digits.{number}
use Rattle.fnc_text.specs.Durations.{duration}
use Rattle.fnc_journal.specs.Names.{is_name}
use Rattle.fnc_command.specs.declared.ask.AskOptions.{AskOptions}
use Rattle.fnc_command.specs.declared.ask.OptionName.{OptionName}
use Rattle.fnc_command.specs.declared.command.Command.{Command}
use Rattle.fnc_command.specs.declared.command.Mode.{Mode}
use Rattle.fnc_command.specs.declared.head.Verb.{Verb}
use Rattle.fnc_command.specs.Answers.{and_then}
use Rattle.fnc_command.specs.Cuts.{none, one, two, three}
use Rattle.fnc_command.specs.Fields.{passing, bytes_of, text_of, name_of, agent_of, is_agent_name, number_of, action_of, exit_of}
use Rattle.fnc_command.specs.Levels.{target_of, devices_of, level_of, unlevel_of}
use Rattle.fnc_command.specs.Options.{cut_option, agent_word, option_words, optional_agent, pairs_of, said_device}
use Rattle.fnc_command.specs.Asks.{Asking, asking, ask_of, coin_name, option_name, at_least_one, with_option, value_of, with_cut, with_words, no_options}
use Rattle.fnc_command.specs.Commands.{Ended, ended, ended_of, exit_words, remove_of, confirm_of, agent_line, said_exit}
use Rattle.fnc_command.specs.Lines.{command, said_after, exit_at, exit_said}
use Rattle.fnc_command.specs.Proper.{AreNamed, IsTimed, IsAskable, IsProperTarget, IsProperCoin, IsProperCommand}
use Rattle.fnc_command.proofs.Readings.{each, any, of_one, of_two, of_three}
use Rattle.fnc_command.proofs.Bounds.{IsTotal, name, agent, target, devices, number_within, kind, total, there, passed}

-- the verb of a command
abbrev verb_of_command : Command → Verb
verb_of_command (Command.Device name agent options) = Verb.Device
verb_of_command (Command.Remove name) = Verb.Remove
verb_of_command (Command.Level target index devices) = Verb.Level
verb_of_command (Command.Unlevel target index) = Verb.Unlevel
verb_of_command (Command.Agent name json) = Verb.Agent
verb_of_command (Command.Ask client kind target total coin) = Verb.Ask
verb_of_command (Command.Exit run exit output) = Verb.Exit
verb_of_command Command.Pass = Verb.Pass
verb_of_command (Command.Confirm client target) = Verb.Confirm

-- a verb that the mode has
abbrev pub IsInMode : Mode → Verb → Type 0
IsInMode mode Verb.Exit = IsTimed mode
IsInMode mode Verb.Pass = IsTimed mode
IsInMode mode _ = Unit {0}

-- a proper command of a verb
abbrev pub IsSaid : Mode → Verb → Command → Type 0
IsSaid mode verb command = IsProperCommand mode command × (verb_of_command command ≡ verb)

abbrev IsNamed : List ℕ → Type 0
IsNamed t = IsTrue (is_name t)

abbrev Anything : {X : Type 0} → X → Type 0
Anything x = Unit {0}

-- the options of a request are proper, where those before are
abbrev IsProperOptions : Mode → AskOptions → Type 0
IsProperOptions mode o = IfSome o.total IsTotal × IsProperCoin mode o.coin

module _ (mode : Mode) where
  with_total : (before : AskOptions) (value : List ℕ) → IsProperOptions mode before
      → IfOk (with_option before value (Some OptionName.Total)) (IsProperOptions mode)
  with_total before value h =
      each IsTotal (IsProperOptions mode) (ok_or (at_least_one (duration value)) Cause.BadTotal) (λ ms.
      passing Cause.BadWord (is_none before.total) (record before { total = Some ms }))
      (there IsTotal (at_least_one (duration value)) Cause.BadTotal (total value))
      (λ ms t. passed (IsProperOptions mode) Cause.BadWord (is_none before.total) (record before { total = Some ms })
      (λ e. (t, h.1)))

  with_coin : IsTimed mode → (before : AskOptions) (value : List ℕ) → IsProperOptions mode before
      → IfOk (with_option before value (Some OptionName.Coin)) (IsProperOptions mode)
  with_coin timed before value h =
      each Anything (IsProperOptions mode) (ok_or (number 18446744073709551615 value) Cause.BadNumber) (λ n.
      passing Cause.BadWord (is_none before.coin) (record before { coin = Some n }))
      (any (ok_or (number 18446744073709551615 value) Cause.BadNumber))
      (λ n t. passed (IsProperOptions mode) Cause.BadWord (is_none before.coin) (record before { coin = Some n })
      (λ e. (h.0, timed)))

  abbrev IsOption : Option OptionName → Type 0
  IsOption (Some OptionName.Coin) = IsTimed mode
  IsOption _ = Unit {0}

  option-proper : (before : AskOptions) (value : List ℕ) (name : Option OptionName) → IsOption name
      → IsProperOptions mode before → IfOk (with_option before value name) (IsProperOptions mode)
  option-proper before value None o h = tt
  option-proper before value (Some OptionName.Total) o h = with_total before value h
  option-proper before value (Some OptionName.Coin) o h = with_coin o before value h

coin-timed : (mode : Mode) (name : List ℕ) → IsOption mode (coin_name mode name)
coin-timed Mode.Live name = tt
coin-timed Mode.Timed name = go (bytes_eq name (codes "coin"))
  where
    go : (b : Bool) → IsOption Mode.Timed (cond b (Some OptionName.Coin) None)
    go true = tt
    go false = tt

option_name-timed : (mode : Mode) (name : List ℕ) → IsOption mode (option_name mode name)
option_name-timed mode name = go (bytes_eq name (codes "total"))
  where
    go : (b : Bool) → IsOption mode (cond b (Some OptionName.Total) (coin_name mode name))
    go true = tt
    go false = coin-timed mode name

cut-proper : (mode : Mode) (before : AskOptions) (word : List ℕ) (cut : Option (List ℕ × List ℕ))
    → IsProperOptions mode before → IfOk (with_cut mode before word cut) (IsProperOptions mode)
cut-proper mode before word None h =
    each Anything (IsProperOptions mode) (text_of word) (λ t. Err Cause.BadWord) (any (text_of word))
    (λ t u. tt)
cut-proper mode before word (Some cut) h =
    each Anything (IsProperOptions mode) (text_of cut.0) (λ name.
    and_then (value_of (option_name mode name) cut.1) (λ value. with_option before value (option_name mode name)))
    (any (text_of cut.0))
    (λ name u. each Anything (IsProperOptions mode) (value_of (option_name mode name) cut.1) (λ value.
    with_option before value (option_name mode name)) (any (value_of (option_name mode name) cut.1))
    (λ value v. option-proper mode before value (option_name mode name) (option_name-timed mode name) h))

options-proper : (mode : Mode) (before : AskOptions) (ws : List (List ℕ)) → IsProperOptions mode before
    → IfOk (with_words mode before ws) (IsProperOptions mode)
options-proper mode before [] h = h
options-proper mode before (word ∷ ws) h =
    each (IsProperOptions mode) (IsProperOptions mode) (with_cut mode before word (cut_option word)) (λ next.
    with_words mode next ws) (cut-proper mode before word (cut_option word) h)
    (λ next p. options-proper mode next ws p)

total-proper : (t : Option ℕ) → IfSome t IsTotal → IsTotal (unwrap_or t DEFAULT_TOTAL)
total-proper None h = (lit≤ tt, lit≤ tt)
total-proper (Some ms) h = h

optional : (word : Option (List ℕ)) → IfOk (optional_agent word) (λ o. IfSome o (λ a. IsTrue (is_agent_name a)))
optional None = tt
optional (Some word) = of_one (λ a. IsTrue (is_agent_name a)) (λ o. IfSome o (λ a. IsTrue (is_agent_name a)))
    (agent_of word) Some (agent word) (λ a h. h)

module _ (mode : Mode) where
  device : (ws : List (List ℕ)) → IfOk (said_device ws) (IsSaid mode Verb.Device)
  device [] = tt
  device (word ∷ ws) =
      of_three IsNamed (λ o. IfSome o (λ a. IsTrue (is_agent_name a))) Anything (IsSaid mode Verb.Device)
      (name_of word) (optional_agent (agent_word ws)) (pairs_of (option_words ws)) Command.Device
      (name word) (optional (agent_word ws)) (any (pairs_of (option_words ws)))
      (λ n a o named agent u. ((named, agent), refl))

  ask : (a : Asking) → IfOk (ask_of mode a) (IsSaid mode Verb.Ask)
  ask a =
      each IsNamed (IsSaid mode Verb.Ask) (name_of a.client) _ (name a.client)
      (λ client named. of_three IsAskable IsNamed (IsProperOptions mode) (IsSaid mode Verb.Ask) (action_of a.action)
      (name_of a.target) (with_words mode no_options a.options) (λ k t o.
      Command.Ask client k t (unwrap_or o.total DEFAULT_TOTAL) o.coin)
      (kind a.action) (name a.target) (options-proper mode no_options a.options (tt, tt))
      (λ k t o askable target options. let within = total-proper o.total options.0 in
      ((named, askable, target, within.0, within.1, options.1), refl)))

  level : (w : List ℕ × List ℕ × List ℕ) → IfOk (level_of w) (IsSaid mode Verb.Level)
  level w =
      of_three Anything IsProperTarget AreNamed (IsSaid mode Verb.Level)
      (number_of 18446744073709551615 w.0) (target_of w.1) (devices_of w.2) (λ i t d. Command.Level t i d)
      (any (number_of 18446744073709551615 w.0)) (target w.1) (devices w.2)
      (λ i t d u proper named. ((proper, named), refl))

  unlevel : (w : List ℕ × List ℕ) → IfOk (unlevel_of w) (IsSaid mode Verb.Unlevel)
  unlevel w =
      of_two Anything IsProperTarget (IsSaid mode Verb.Unlevel) (number_of 18446744073709551615 w.0) (target_of w.1)
      (λ i t. Command.Unlevel t i)
      (any (number_of 18446744073709551615 w.0)) (target w.1)
      (λ i t u proper. (proper, refl))

  remove : (w : List ℕ) → IfOk (remove_of w) (IsSaid mode Verb.Remove)
  remove w = of_one IsNamed (IsSaid mode Verb.Remove) (name_of w) Command.Remove (name w) (λ n named. (named, refl))

  agent_described : (w : List ℕ × List ℕ) → IfOk (agent_line w) (IsSaid mode Verb.Agent)
  agent_described w =
      of_two (λ a. IsTrue (is_agent_name a)) Anything (IsSaid mode Verb.Agent) (agent_of w.0) (bytes_of w.1)
      Command.Agent (agent w.0) (any (bytes_of w.1))
      (λ n json named u. (named, refl))

  confirm : (w : List ℕ × List ℕ) → IfOk (confirm_of w) (IsSaid mode Verb.Confirm)
  confirm w =
      of_two IsNamed IsNamed (IsSaid mode Verb.Confirm) (name_of w.0) (name_of w.1) Command.Confirm
      (name w.0) (name w.1)
      (λ c t client target. ((client, target), refl))

abbrev IsRun : Ended → Type 0
IsRun e = e.run ≤ 4294967295

run-within : (w : List ℕ × List ℕ × List ℕ) → IfOk (ended_of w) IsRun
run-within w =
    of_three (λ n. n ≤ 4294967295) Anything Anything IsRun (number_of 4294967295 w.0) (exit_of w.1) (bytes_of w.2)
    (λ run exit output. record { run = run; exit = exit; output = output })
    (number_within 4294967295 w.0) (any (exit_of w.1)) (any (bytes_of w.2))
    (λ run exit output h u v. h)

exit : (mode : Mode) → IsTimed mode → (ws : List (List ℕ)) → IfOk (said_exit ws) (IsSaid mode Verb.Exit)
exit mode timed ws =
    of_one IsRun (IsSaid mode Verb.Exit) (ended ws) (λ e. Command.Exit (record { 0 = e.run }) e.exit e.output)
    (each Anything IsRun (exit_words ws) ended_of (any (exit_words ws)) (λ w u. run-within w))
    (λ e h. ((timed, omega arith), refl))

-- what the words after a verb of the mode say is proper, and of this verb
pub command-said : (mode : Mode) (verb : Verb) (ws : List (List ℕ)) → IsInMode mode verb
    → IfOk (command mode verb ws) (IsSaid mode verb)
command-said mode Verb.Device ws m = device mode ws
command-said mode Verb.Remove ws m = each Anything (IsSaid mode Verb.Remove) (one ws) remove_of (any (one ws))
    (λ w u. remove mode w)
command-said mode Verb.Level ws m = each Anything (IsSaid mode Verb.Level) (three ws) level_of (any (three ws))
    (λ w u. level mode w)
command-said mode Verb.Unlevel ws m = each Anything (IsSaid mode Verb.Unlevel) (two ws) unlevel_of (any (two ws))
    (λ w u. unlevel mode w)
command-said mode Verb.Agent ws m = each Anything (IsSaid mode Verb.Agent) (two ws) agent_line (any (two ws)) (λ w u.
    agent_described mode w)
command-said mode Verb.Ask ws m = each Anything (IsSaid mode Verb.Ask) (asking ws) (ask_of mode) (any (asking ws))
    (λ a u. ask mode a)
command-said mode Verb.Exit ws m = exit mode m ws
command-said mode Verb.Pass ws m = of_one Anything (IsSaid mode Verb.Pass) (none ws) (λ nothing. Command.Pass)
    (any (none ws)) (λ nothing u. (m, refl))
command-said mode Verb.Confirm ws m = each Anything (IsSaid mode Verb.Confirm) (two ws) confirm_of (any (two ws))
    (λ w u. confirm mode w)

-- a command that is not of the verb `exit` is no exit
no_exit-other : (moment : Option ℕ) (command : Command) → (verb_of_command command ≡ Verb.Exit → ⊥)
    → exit_at command moment ≡ None
no_exit-other moment (Command.Exit run exit output) n = absurd (n refl)
no_exit-other moment _ n = refl

pub no_exit : (moment : Option ℕ) (verb : Verb) (ws : List (List ℕ)) → (verb ≡ Verb.Exit → ⊥)
    → exit_said (said_after Mode.Timed (record { moment = moment; verb = verb; words = ws })) ≡ None
no_exit moment verb ws n = go (command Mode.Timed verb ws) (command-said Mode.Timed verb ws (timed verb))
  where
    timed : (verb : Verb) → IsInMode Mode.Timed verb
    timed Verb.Exit = tt
    timed Verb.Pass = tt
    timed _ = tt

    go : (r : Result Command Cause) → IfOk r (IsSaid Mode.Timed verb)
        → exit_said (and_then r (λ command. Ok (record { moment = moment; command = command }))) ≡ None
    go (Ok command) h = no_exit-other moment command (subst (λ v. v ≡ Verb.Exit → ⊥) (sym h.1) n)
    go (Err cause) h = refl
