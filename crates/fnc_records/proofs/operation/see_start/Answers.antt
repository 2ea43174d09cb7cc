-- The step of the loop.
use Rattle.std.proofs.Common.{◌<◌, ap, ◌∙◌, set, length, arith}
use Rattle.std.proofs.lemmas.List.Edits.{map_over_more}
use Rattle.std.proofs.lemmas.List.{get_or_default}
use Rattle.fnc_records.specs.LevelRecords.{level_started}
use Rattle.fnc_records.proofs.operation.see_start.Goals as goal

pub loop-level-preserved : goal.loop-level-preserved
loop-level-preserved c =
    let in_levels : c.loop-level.level-index < length c.loop-level.levels = omega arith in
    ap (set c.loop-level.levels c.loop-level.level-index) c.see_start.ensures
    ∙ map_over_more (level_started c.args.slot c.args.moment) c.args.levels.now c.loop-level.levels
    c.loop-level.level-index _ (omega arith) c.loop-level.invariant
    (get_or_default c.loop-level.levels c.loop-level.level-index _ _ in_levels)
