-- The laws go by induction over the calls.
use Rattle.fnc_core.proofs.Growing.{grows-all, entered-all, sound-all}
use Rattle.fnc_core.proofs.law.calls_add_at_the_end.Goals as goal

pub returns : goal.returns
returns c = record { grows = grows-all; entered = entered-all; sound = sound-all }
