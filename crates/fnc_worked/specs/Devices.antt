-- The devices of the worked journals: what a definition is where the device's line has no option, and with one or two.
use Prim.Native.String.{String as Quoted}
use Rattle.std.specs.Prelude.{ℕ, [], ◌∷◌, true, false, Some, None, codes, pos}
use Rattle.fnc_journal.specs.declared.definition.Actions.{Actions}
use Rattle.fnc_journal.specs.declared.definition.Allowed.{Allowed}
use Rattle.fnc_journal.specs.declared.definition.Base.{Base}
use Rattle.fnc_journal.specs.declared.definition.Definition.{Definition}
use Rattle.fnc_journal.specs.declared.definition.HostCheck.{HostCheck}

-- what an action is allowed: a time in milliseconds, and two tries
abbrev pub within : ℕ → Quoted → Allowed
within time word = record { word = codes word; time = time; tries = 2 }

-- the actions of an agent that was not described
abbrev pub power_actions : Actions
power_actions = record { on = true; off = true; reboot = true; list = false; status = false }

-- no option
abbrev pub plain : Definition
plain = record {
  actions = power_actions;
  check = HostCheck.Nothing;
  hosts = [];
  map = [];
  argument = Some (codes "port");
  cap = Some 1;
  priority = pos 0;
  base = Base.Fixed 0;
  max = 0;
  keep = 0;
  on = within 60_000 "on";
  off = within 60_000 "off";
  reboot = within 60_000 "reboot";
  list = within 60_000 "list";
  status = within 60_000 "status";
  own = [];
}

-- `pcmk_off_timeout`, in milliseconds
abbrev pub off_timeout : ℕ → Definition
off_timeout time = record plain { off = within time "off" }

-- `pcmk_action_limit`
abbrev pub limit : ℕ → Definition
limit cap = record plain { cap = Some cap }

-- `pcmk_action_limit=-1`
abbrev pub unlimited : Definition
unlimited = record plain { cap = None }

-- `pcmk_delay_base` and `pcmk_delay_max`, in milliseconds
abbrev pub delay : ℕ → ℕ → Definition
delay base max = record plain { base = Base.Fixed base; max = max }

-- `priority`
abbrev pub priority : ℕ → Definition
priority n = record plain { priority = pos n }

-- `pcmk_host_list` with one host
abbrev pub host : Quoted → Definition
host node = record plain { check = HostCheck.StaticList; hosts = codes node ∷ [] }

-- `pcmk_host_map` with two hosts, of which the ports are 1 and 2
abbrev pub mapped : Quoted → Quoted → Definition
mapped first second = record plain {
  check = HostCheck.StaticList;
  map = record { name = codes first; value = codes "1" } ∷ record { name = codes second; value = codes "2" } ∷ [];
}

-- an agent with `off` alone
abbrev pub off_actions : Actions
off_actions = record { on = false; off = true; reboot = false; list = false; status = false }

-- a device of such an agent
abbrev pub off_only : Definition
off_only = record plain { actions = off_actions }

-- an agent with `on` and `off`
abbrev pub switch_actions : Actions
switch_actions = record { on = true; off = true; reboot = false; list = false; status = false }

-- a device whose agent has no `reboot`
abbrev pub switch : Definition
switch = record plain { actions = switch_actions }

-- an agent that has `list` besides
abbrev pub list_actions : Actions
list_actions = record { on = true; off = true; reboot = true; list = true; status = false }

-- a device that is asked for its list, and what it said is kept for a time
abbrev pub listing : ℕ → Definition
listing keep = record plain { actions = list_actions; check = HostCheck.DynamicList; keep = keep }

-- one that keeps it for a minute, and has two places
abbrev pub listing_two_places : Definition
listing_two_places = record (listing 60_000) { cap = Some 2 }

-- an agent with `off` and `status`
abbrev pub status_actions : Actions
status_actions = record { on = false; off = true; reboot = false; list = false; status = true }

-- a device that is asked for the status of the node
abbrev pub status : Definition
status = record plain { actions = status_actions; check = HostCheck.Status }
