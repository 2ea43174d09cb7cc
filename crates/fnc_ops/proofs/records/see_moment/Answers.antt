-- The step of the loop.
use Rattle.std.proofs.Common.{◌<◌, ap, ◌∙◌, set, length, arith}
use Rattle.std.proofs.lemmas.List.Edits.{map_over_more}
use Rattle.std.proofs.lemmas.List.{get_or_default}
use Rattle.fnc_records.specs.OperationRecords.{at_moment}
use Rattle.fnc_ops.proofs.records.see_moment.Goals as goal

pub loop-record-preserved : goal.loop-record-preserved
loop-record-preserved c =
    let in_records : c.loop-record.record-index < length c.loop-record.records = omega arith in
    ap (set c.loop-record.records c.loop-record.record-index) c.see_moment.ensures
    ∙ map_over_more (at_moment c.args.moment) c.args.records.now c.loop-record.records c.loop-record.record-index _
    (omega arith) c.loop-record.invariant
    (get_or_default c.loop-record.records c.loop-record.record-index _ _ in_records)
