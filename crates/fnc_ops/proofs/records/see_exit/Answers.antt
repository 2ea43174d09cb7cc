-- The step of the loop.
use Rattle.std.proofs.Common.{◌<◌, ap, ◌∙◌, set, length, arith}
use Rattle.std.proofs.lemmas.List.Edits.{map_over_more}
use Rattle.std.proofs.lemmas.List.{get_or_default}
use Rattle.fnc_records.specs.OperationRecords.{only, operation_ended}
use Rattle.fnc_ops.proofs.records.see_exit.Goals as goal

pub loop-record-preserved : goal.loop-record-preserved
loop-record-preserved c =
    let in_records : c.loop-record.record-index < length c.loop-record.records = omega arith in
    ap (set c.loop-record.records c.loop-record.record-index) c.see_exit_of.ensures
    ∙ map_over_more (only c.args.operation.0 (operation_ended c.args.slot c.args.exit c.args.listed c.args.moment))
    c.args.records.now c.loop-record.records c.loop-record.record-index _ (omega arith) c.loop-record.invariant
    (get_or_default c.loop-record.records c.loop-record.record-index _ _ in_records)
