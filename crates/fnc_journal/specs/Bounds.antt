-- What a device's options can define: each text and each number by itself.
use Rattle.std.specs.Prelude.{
  ℕ,
  ℤ,
  pos,
  negsuc,
  List,
  [],
  ◌∷◌,
  Bool,
  true,
  false,
  not,
  ◌&&◌,
  ◌||◌,
  ◌==◌,
  ◌-◌,
  nat_eq,
  nat_lt,
  nat_le,
  length,
  Option,
  Some,
  None,
  IsTrue,
  bytes_eq,
  codes,
}
use Rattle.std.specs.List.{list_all, starts_with, ends_with}
use Rattle.fnc_journal.specs.declared.definition.Allowed.{Allowed}
use Rattle.fnc_journal.specs.declared.definition.Base.{Base}
use Rattle.fnc_journal.specs.declared.definition.Definition.{Definition}
use Rattle.fnc_journal.specs.declared.definition.Delay.{Delay}
use Rattle.fnc_journal.specs.declared.limits.TheConstants.{
  DAY,
  GREATEST_PRIORITY,
  LONGEST_NAME,
  LONGEST_OPTION_NAME,
  LONGEST_VALUE,
  MOST_HOSTS,
  MOST_OPTIONS,
  MOST_RUNS,
  MOST_TRIES,
}
use Rattle.fnc_journal.specs.declared.names.Pair.{Pair}

-- a byte that may stand in an option's name: no control byte, no space, no equals sign
abbrev pub is_option_byte : ℕ → Bool
is_option_byte b = nat_le 0x21 b && not (b == 0x7F) && not (b == 61)

-- a name of one such byte or more that does not begin with `#`
abbrev pub is_option_name : List ℕ → Bool
is_option_name [] = false
is_option_name (b ∷ bs) =
    not (b == 35) && nat_le (length (b ∷ bs)) LONGEST_OPTION_NAME && list_all is_option_byte (b ∷ bs)

-- a byte that may stand in a value: no control byte
abbrev pub is_value_byte : ℕ → Bool
is_value_byte b = nat_le 0x20 b && not (b == 0x7F)

-- a value of such bytes
abbrev pub is_option_value : List ℕ → Bool
is_option_value value = nat_le (length value) LONGEST_VALUE && list_all is_value_byte value

-- whether an option is passed on to the agent: all are but those of the fencer itself
abbrev pub is_own : List ℕ → Bool
is_own name = not (starts_with nat_eq name (codes "pcmk_")) && not (bytes_eq name (codes "priority"))

-- a byte of an entry that semicolons and spaces separate
abbrev pub is_entry_byte : ℕ → Bool
is_entry_byte b = is_value_byte b && not ((b == 59) || (b == 32))

-- a byte of a host: commas separate these too
abbrev pub is_host_byte : ℕ → Bool
is_host_byte b = is_value_byte b && not ((b == 44) || ((b == 59) || (b == 32)))

-- a byte of a name that a colon ends
abbrev pub is_node_byte : ℕ → Bool
is_node_byte b = is_entry_byte b && not (b == 58)

-- a text of 1 to so many of these bytes
abbrev pub is_text : ℕ → (ℕ → Bool) → List ℕ → Bool
is_text most is_byte text = nat_lt 0 (length text) && nat_le (length text) most && list_all is_byte text

-- a host, and a node that a port or a delay is given for
abbrev pub is_host : List ℕ → Bool
is_host name = is_text LONGEST_NAME is_host_byte name

abbrev pub is_node : List ℕ → Bool
is_node name = is_text LONGEST_NAME is_node_byte name

-- the longest value has room for a name of one byte, a colon and the port
abbrev pub is_host_pair : Pair → Bool
is_host_pair p = is_node p.name && is_text (LONGEST_VALUE - 2) is_entry_byte p.value

-- the option that carries the port, where there is one
abbrev pub is_carrier : Option (List ℕ) → Bool
is_carrier None = true
is_carrier (Some name) = is_option_name name

-- a limit of runs, where there is one
abbrev pub is_cap : Option ℕ → Bool
is_cap None = true
is_cap (Some n) = nat_lt 0 n && nat_le n MOST_RUNS

-- a priority, of at most the greatest either way
abbrev pub is_priority : ℤ → Bool
is_priority (pos n) = nat_le n GREATEST_PRIORITY
is_priority (negsuc n) = nat_lt n GREATEST_PRIORITY

-- a duration, of at most a day
abbrev pub is_time : ℕ → Bool
is_time ms = nat_le ms DAY

abbrev pub is_delay : Delay → Bool
is_delay d = is_node d.name && is_time d.ms

-- the base of the delay: one for all nodes, or one for each node of a list
abbrev pub is_base : Base → Bool
is_base (Base.Fixed ms) = is_time ms
is_base (Base.ByNode ds) = nat_lt 0 (length ds) && nat_le (length ds) MOST_HOSTS && list_all is_delay ds

-- the word that is sent in place of an action
abbrev pub is_action_word : List ℕ → Bool
is_action_word word = nat_lt 0 (length word) && is_option_value word

abbrev pub is_allowed : Allowed → Bool
is_allowed a =
    is_action_word a.word && nat_lt 0 a.time && is_time a.time && nat_lt 0 a.tries && nat_le a.tries MOST_TRIES

-- an option that is passed on to the agent
abbrev pub is_own_option : Pair → Bool
is_own_option o =
    is_option_name o.name && is_option_value o.value && is_own o.name && not (ends_with nat_eq o.value (codes " "))

-- the bounds of a definition
pub record IsBounded (d : Definition) : Type 0 where
  pub off : IsTrue d.actions.off
  pub few_hosts : IsTrue (nat_le (length d.hosts) MOST_HOSTS)
  pub hosts : IsTrue (list_all is_host d.hosts)
  pub small_map : IsTrue (nat_le (length d.map) MOST_HOSTS)
  pub map : IsTrue (list_all is_host_pair d.map)
  pub argument : IsTrue (is_carrier d.argument)
  pub cap : IsTrue (is_cap d.cap)
  pub priority : IsTrue (is_priority d.priority)
  pub base : IsTrue (is_base d.base)
  pub max : IsTrue (is_time d.max)
  pub keep : IsTrue (is_time d.keep)
  pub on : IsTrue (is_allowed d.on)
  pub off_allowed : IsTrue (is_allowed d.off)
  pub reboot : IsTrue (is_allowed d.reboot)
  pub list : IsTrue (is_allowed d.list)
  pub status : IsTrue (is_allowed d.status)
  pub few_own : IsTrue (nat_le (length d.own) MOST_OPTIONS)
  pub own : IsTrue (list_all is_own_option d.own)
