-- A whole run of the agent: on the bytes that it is sent and the bytes of its switch.
use Rattle.std.specs.Prelude.{ℕ, List, [], Result, Ok, Err}
use Rattle.fnc_journal.specs.declared.names.Pair.{Pair}
use Rattle.fnc_agent_api.specs.Options.{options_of}
use Rattle.fnc_agent_api.specs.declared.options.OptionFault.{OptionFault}
use Rattle.fnc_switch.specs.declared.plug.Plug.{Plug}
use Rattle.fnc_switch.specs.declared.switch.SwitchFault.{SwitchFault}
use Rattle.fnc_switch.specs.declared.run.AgentRun.{AgentRun}
use Rattle.fnc_switch.specs.Switches.{switch_of, text_of}
use Rattle.fnc_switch.specs.Agents.{Done, answers}

-- a run that could not read what it was given
abbrev pub unread : List ℕ → AgentRun
unread state = record { status = 1; output = []; state = state }

-- a run that did something, with the text of its switch
abbrev pub written : Done → AgentRun
written done = record { status = done.status; output = done.output; state = text_of done.plugs }

abbrev pub ran_on : List Pair → List ℕ → Result (List Plug) SwitchFault → AgentRun
ran_on options state (Ok plugs) = written (answers options plugs)
ran_on options state (Err fault) = unread state

abbrev pub ran_with : Result (List Pair) OptionFault → List ℕ → AgentRun
ran_with (Ok options) state = ran_on options state (switch_of state)
ran_with (Err fault) state = unread state

-- what a run with these options on this switch is
abbrev pub ran : List ℕ → List ℕ → AgentRun
ran input state = ran_with (options_of input) state
