-- An input that registers no device leaves few names registered.
use Rattle.fnc_core.proofs.KnownFew.{few-undevice}
use Rattle.fnc_core.proofs.machine.Core.enter.Goals as goal

pub enter-requires-clause-few_names : goal.enter-requires-clause-few_names
enter-requires-clause-few_names c =
    few-undevice c.self.inside.last c.args.event c.self.inside.parts.history c.requires.undevice
    c.self.invariant.rests.between.few
