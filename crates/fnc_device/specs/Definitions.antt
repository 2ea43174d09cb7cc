-- What the options of a device define, with the description of its agent.
use Rattle.std.specs.Prelude.{
  ℕ,
  List,
  [],
  ◌∷◌,
  Bool,
  false,
  not,
  ◌&&◌,
  if◌then◌else◌,
  Option,
  Some,
  None,
  Result,
  Ok,
  Err,
  bytes_eq,
  codes,
}
use Rattle.fnc_journal.specs.declared.definition.Definition.{Definition}
use Rattle.fnc_journal.specs.declared.definition.Description.{Description}
use Rattle.fnc_journal.specs.declared.definition.Parameter.{Parameter}
use Rattle.fnc_journal.specs.declared.names.Pair.{Pair}
use Rattle.fnc_device.specs.declared.fault.DefineFault.{DefineFault}
use Rattle.fnc_device.specs.Steps.{◌>>=◌}
use Rattle.fnc_device.specs.Options.{is_given, right_options, own_options}
use Rattle.fnc_device.specs.Nodes.{nodes, argument}
use Rattle.fnc_device.specs.Times.{time}
use Rattle.fnc_device.specs.Schedules.{schedule}
use Rattle.fnc_device.specs.Allowances.{allowances}

-- whether a name is that of the option that carries the port
abbrev pub carries_port : Option (List ℕ) → List ℕ → Bool
carries_port None name = false
carries_port (Some argument) name = bytes_eq argument name

-- whether a parameter is required and neither given nor sent by the fencer
abbrev pub is_missing : List Pair → Option (List ℕ) → Parameter → Bool
is_missing options argument p =
    p.required && not (is_given p.name options) && not (carries_port argument p.name)
    && not (bytes_eq p.name (codes "action")) && not (bytes_eq p.name (codes "nodename"))

-- the first parameter that is missing
abbrev pub all_given : List Pair → Option (List ℕ) → List Parameter → Result (Unit {0}) DefineFault
all_given options argument [] = Ok tt
all_given options argument (p ∷ ps) =
    if is_missing options argument p then Err (DefineFault.MissingParameter p.name) else all_given options argument ps

-- the definition, or the first fault
abbrev pub define : List Pair → Description → Result Definition DefineFault
define options description =
    let carrier = argument options description.target in
    right_options options >>= λ formed.
    nodes options description.actions >>= λ nodes.
    schedule options >>= λ schedule.
    allowances options >>= λ allowances.
    time (codes "pcmk_list_keep") 0 options >>= λ keep.
    all_given options carrier description.parameters >>= λ given.
    Ok (record {
      actions = description.actions;
      check = nodes.check;
      hosts = nodes.hosts;
      map = nodes.map;
      argument = carrier;
      cap = schedule.cap;
      priority = schedule.priority;
      base = schedule.base;
      max = schedule.max;
      keep = keep;
      on = allowances.on;
      off = allowances.off;
      reboot = allowances.reboot;
      list = allowances.list;
      status = allowances.status;
      own = own_options options;
    })
