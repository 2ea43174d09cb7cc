-- When and where a device's actions may start: the delay before them, how many may run at once, and
-- the place of the device among others.
use Rattle.std.specs.Prelude.{
  ℕ,
  List,
  [],
  ◌∷◌,
  ◌==◌,
  if◌then◌else◌,
  Option,
  Some,
  None,
  Result,
  Ok,
  Err,
  bytes_eq,
  codes,
  ℤ,
  pos,
  neg_ℤ,
}
use Rattle.std.specs.List.{list_any}
use Rattle.fnc_journal.specs.declared.limits.TheConstants.{GREATEST_PRIORITY, MOST_RUNS}
use Rattle.fnc_journal.specs.declared.definition.Base.{Base}
use Rattle.fnc_journal.specs.declared.definition.Delay.{Delay}
use Rattle.fnc_journal.specs.declared.names.Pair.{Pair}
use Rattle.fnc_text.specs.Digits.{number}
use Rattle.fnc_text.specs.Durations.{duration}
use Rattle.fnc_hosts.specs.Hosts.{is_colon, host_map}
use Rattle.fnc_device.specs.declared.fault.DefineFault.{DefineFault}
use Rattle.fnc_device.specs.declared.schedule.Schedule.{Schedule}
use Rattle.fnc_device.specs.Steps.{◌>>=◌}
use Rattle.fnc_device.specs.Options.{value_of}
use Rattle.fnc_device.specs.Nodes.{or_fault}
use Rattle.fnc_device.specs.Times.{or_bad, time}

-- the fault of the delay's base
abbrev pub bad_base : DefineFault
bad_base = DefineFault.BadDuration (codes "pcmk_delay_base")

-- the base for a node is a duration
abbrev pub delay : Pair → Result Delay DefineFault
delay p = or_bad (codes "pcmk_delay_base") (duration p.value) >>= λ ms. Ok (record { name = p.name; ms = ms })

-- the bases of all nodes
abbrev pub delays : List Pair → Result (List Delay) DefineFault
delays [] = Ok []
delays (p ∷ ps) = delay p >>= λ d. delays ps >>= λ ds. Ok (d ∷ ds)

-- with a colon the base is written node by node, as ports are in a host map
abbrev pub base_of_text : List ℕ → Result Base DefineFault
base_of_text text =
    if list_any is_colon text
    then (or_fault bad_base (host_map text) >>= λ pairs. delays pairs >>= λ ds. Ok (Base.ByNode ds))
    else (or_bad (codes "pcmk_delay_base") (duration text) >>= λ ms. Ok (Base.Fixed ms))

-- the base of the delay, 0 where none is given
abbrev pub base_of : Option (List ℕ) → Result Base DefineFault
base_of None = Ok (Base.Fixed 0)
base_of (Some text) = base_of_text text

-- a limit of 1 to 64 runs
abbrev pub counted_limit : Option ℕ → Result (Option ℕ) DefineFault
counted_limit None = Err DefineFault.BadLimit
counted_limit (Some n) = if n == 0 then Err DefineFault.BadLimit else Ok (Some n)

-- how many runs may be alive at once: 1 where no limit is given, any number where it is -1
abbrev pub limit_of : Option (List ℕ) → Result (Option ℕ) DefineFault
limit_of None = Ok (Some 1)
limit_of (Some text) = if bytes_eq text (codes "-1") then Ok None else counted_limit (number MOST_RUNS text)

-- a number that was read, as a priority
abbrev pub signed : (ℕ → ℤ) → Option ℕ → Result ℤ DefineFault
signed sign None = Err DefineFault.BadPriority
signed sign (Some n) = Ok (sign n)

-- a number of at most a million after an optional minus
abbrev pub priority_of_text : List ℕ → Result ℤ DefineFault
priority_of_text [] = Err DefineFault.BadPriority
priority_of_text (b ∷ bs) =
    if b == 45 then signed (λ n. neg_ℤ (pos n)) (number GREATEST_PRIORITY bs)
    else signed pos (number GREATEST_PRIORITY (b ∷ bs))

-- the priority, 0 where none is given
abbrev pub priority_of : Option (List ℕ) → Result ℤ DefineFault
priority_of None = Ok (pos 0)
priority_of (Some text) = priority_of_text text

-- what the options say on when and where actions may start
abbrev pub schedule : List Pair → Result Schedule DefineFault
schedule options =
    base_of (value_of (codes "pcmk_delay_base") options) >>= λ base.
    time (codes "pcmk_delay_max") 0 options >>= λ max.
    limit_of (value_of (codes "pcmk_action_limit") options) >>= λ cap.
    priority_of (value_of (codes "priority") options) >>= λ priority.
    Ok (record { base = base; max = max; cap = cap; priority = priority })
