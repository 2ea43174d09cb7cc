-- What is kept is what the test keeps.
use Rattle.std.proofs.Common.{rules}
use Rattle.std.proofs.lemmas.List.Elements.{filter_from_retain}
use Rattle.fnc_records.specs.OperationRecords.{is_waiting}
use Rattle.fnc_ops.proofs.records.keep_waiting.Goals as goal

pub returns : goal.returns
returns c = filter_from_retain _ is_waiting (λ p x b q h. search rules) _ c.args.records.now.items
    c.retain.new.self.items c.retain.ensures.filtered
