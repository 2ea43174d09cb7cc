-- The step of the loop.
use Rattle.std.proofs.Common.{◌<◌, ap, ◌∙◌, set, length, arith}
use Rattle.std.proofs.lemmas.List.Edits.{map_over_more}
use Rattle.std.proofs.lemmas.List.{get_or_default}
use Rattle.fnc_records.specs.SlotRecords.{at_level}
use Rattle.fnc_records.proofs.level.number.Goals as goal

pub loop-s-preserved : goal.loop-s-preserved
loop-s-preserved c =
    let in_slots : c.loop-s.s-index < length c.loop-s.slots = omega arith in
    ap (set c.loop-s.slots c.loop-s.s-index) c.take_level.ensures
    ∙ map_over_more (at_level c.args.index) c.args.slots.now c.loop-s.slots c.loop-s.s-index _ (omega arith)
    c.loop-s.invariant
    (get_or_default c.loop-s.slots c.loop-s.s-index _ _ in_slots)
