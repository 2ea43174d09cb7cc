-- What the options of a made device define is plain: they say no more than how long an action may take.
use Rattle.std.proofs.Common.{ℕ, List, [], ◌∷◌, ◌≡◌, ◌≤◌, refl, arith, Some, Result, Ok, Err, IfOk}
use Rattle.std.specs.Prelude.{codes}
use Rattle.fnc_journal.specs.declared.definition.Base.{Base}
use Rattle.fnc_journal.specs.declared.definition.Definition.{Definition}
use Rattle.fnc_journal.specs.declared.definition.Description.{Description}
use Rattle.fnc_journal.specs.declared.entry.Kind.{Kind}
use Rattle.fnc_journal.specs.declared.names.Pair.{Pair}
use Rattle.fnc_journal.specs.Device.{allowed, delay}
use Rattle.fnc_device.specs.declared.fault.DefineFault.{DefineFault}
use Rattle.fnc_device.specs.Definitions.{all_given, define}
use Rattle.fnc_device.specs.Nodes.{argument}
use Rattle.fnc_device.specs.Steps.{◌>>=◌}
use Rattle.fnc_answered.specs.Plain.{PlainDefinition}

-- the options of a made device: the time of each action that cuts power or gives it
abbrev pub ten_seconds : List ℕ → Pair
ten_seconds name = record { name = name; value = codes "10s" }

abbrev pub times : List Pair
times =
    ten_seconds (codes "pcmk_on_timeout") ∷ ten_seconds (codes "pcmk_off_timeout")
    ∷ ten_seconds (codes "pcmk_reboot_timeout") ∷ []

if-given : (d : Definition) → PlainDefinition d → (given : Result (Unit {0}) DefineFault) →
    IfOk (given >>= λ g. Ok d) PlainDefinition
if-given d p (Ok g) = p
if-given d p (Err fault) = tt

plain-of : (d : Definition) → d.base ≡ Base.Fixed 0 → d.max ≡ 0 → d.cap ≡ Some 1 → d.on.tries ≡ 2 → d.off.tries ≡ 2 →
    d.reboot.tries ≡ 2 → d.list.tries ≡ 2 → d.status.tries ≡ 2 → PlainDefinition d
plain-of d base most cap on off reboot list status = record {
  undelayed = undelayed;
  tried = tried;
  roomy = rw cap refl;
}
  where
    undelayed : (kind : Kind) (target : List ℕ) (coin : ℕ) → delay d kind target coin ≡ 0
    undelayed Kind.On target coin = refl
    undelayed Kind.Off target coin = rw (base, most) refl
    undelayed Kind.Reboot target coin = rw (base, most) refl
    undelayed Kind.List target coin = refl
    undelayed Kind.Status target coin = refl

    tried : (kind : Kind) → 1 ≤ (allowed d kind).tries
    tried Kind.On = omega (arith, on)
    tried Kind.Off = omega (arith, off)
    tried Kind.Reboot = omega (arith, reboot)
    tried Kind.List = omega (arith, list)
    tried Kind.Status = omega (arith, status)

pub times-plain : (description : Description) → IfOk (define times description) PlainDefinition
times-plain description =
    if-given _ (plain-of _ refl refl refl refl refl refl refl refl)
    (all_given times (argument times description.target) description.parameters)
