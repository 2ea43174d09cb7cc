-- The nodes that a device serves, how it is asked for them, and the option that carries a node's port.
use Rattle.std.specs.Prelude.{
  ℕ,
  List,
  [],
  if◌then◌else◌,
  Option,
  Some,
  None,
  Result,
  Ok,
  Err,
  unwrap_or,
  bytes_eq,
  codes,
}
use Rattle.fnc_journal.specs.declared.definition.Actions.{Actions}
use Rattle.fnc_journal.specs.declared.definition.HostCheck.{HostCheck}
use Rattle.fnc_journal.specs.declared.names.Pair.{Pair}
use Rattle.fnc_hosts.specs.declared.hosts.HostFault.{HostFault}
use Rattle.fnc_hosts.specs.Hosts.{host_list, host_map}
use Rattle.fnc_hosts.specs.Checks.{check_kind}
use Rattle.fnc_device.specs.declared.fault.DefineFault.{DefineFault}
use Rattle.fnc_device.specs.declared.nodes.Nodes.{Nodes}
use Rattle.fnc_device.specs.Steps.{◌>>=◌}
use Rattle.fnc_device.specs.Options.{value_of}

-- hosts that were read, or this fault in place of theirs
abbrev pub or_fault : {X : Type 0} → DefineFault → Result X HostFault → Result X DefineFault
or_fault fault (Ok x) = Ok x
or_fault fault (Err e) = Err fault

-- the names of a host list
abbrev pub hosts_of : Option (List ℕ) → Result (List (List ℕ)) DefineFault
hosts_of None = Ok []
hosts_of (Some text) = or_fault DefineFault.BadHostList (host_list text)

-- the names and ports of a host map
abbrev pub map_of : Option (List ℕ) → Result (List Pair) DefineFault
map_of None = Ok []
map_of (Some text) = or_fault DefineFault.BadHostMap (host_map text)

-- the check that a word names
abbrev pub check_of_word : List ℕ → Result (Option HostCheck) DefineFault
check_of_word word =
    if bytes_eq word (codes "dynamic-list") then Ok (Some HostCheck.DynamicList)
    else (if bytes_eq word (codes "static-list") then Ok (Some HostCheck.StaticList)
    else (if bytes_eq word (codes "status") then Ok (Some HostCheck.Status)
    else (if bytes_eq word (codes "none") then Ok (Some HostCheck.Nothing)
    else Err DefineFault.BadHostCheck)))

-- the check that is written, where one is
abbrev pub written_check : Option (List ℕ) → Result (Option HostCheck) DefineFault
written_check None = Ok None
written_check (Some word) = check_of_word word

-- the nodes that the options name, and how the device is asked for others
abbrev pub nodes : List Pair → Actions → Result Nodes DefineFault
nodes options actions =
    hosts_of (value_of (codes "pcmk_host_list") options) >>= λ hosts.
    map_of (value_of (codes "pcmk_host_map") options) >>= λ map.
    written_check (value_of (codes "pcmk_host_check") options) >>= λ written.
    Ok (record { hosts = hosts; map = map; check = check_kind written hosts map actions })

-- the agent's option that carries the port: the one that is written, unless that is `none`; else the one that
-- the agent's description names; else `port`
abbrev pub argument_of : Option (List ℕ) → Option (List ℕ) → Option (List ℕ)
argument_of (Some text) target = if bytes_eq text (codes "none") then None else Some text
argument_of None target = Some (unwrap_or target (codes "port"))

-- the option that carries the port
abbrev pub argument : List Pair → Option (List ℕ) → Option (List ℕ)
argument options target = argument_of (value_of (codes "pcmk_host_argument") options) target
