use Rattle.std.proofs.Common.{◌∙◌, ap, min, Some, None, if◌then◌else◌}
use Rattle.std.proofs.lemmas.Bool.{le-leb, lt-leb}
use Rattle.fnc_config.specs.declared.faults.LevelFault.{LevelFault}
use Rattle.fnc_config.specs.Configured.{Configured, count_levels, other_levels}
use Rattle.fnc_config.proofs.config.Config.check_room.Goals as goal
use Rattle.fnc_config.proofs.LevelCounts.{others-count, room-full, room-left}

pub returns-then-saturating_sub-ge-MOST_LEVELS : goal.returns-then-saturating_sub-ge-MOST_LEVELS
returns-then-saturating_sub-ge-MOST_LEVELS c =
    let target = c.args.target.now in
    let index = c.args.index in
    let seen = c.args.self.now in
    let names = c.count.ensures
    ∙ ap (λ (k : Configured). min (count_levels k.names) 18446744073709551615) c.self.view_is in
    let patterns =
    c.count-2.ensures ∙ ap (λ (k : Configured). min (count_levels k.patterns) 18446744073709551615) c.self.view_is in
    let full = room-full _ _ (other_levels target index seen) _ _ _ _ _ _ (others-count target index seen)
    names patterns c.saturating_add-all.ensures c.count_of-own.ensures c.saturating_sub.ensures
    c.if-saturating_sub-ge-MOST_LEVELS.true in
    ap (λ b. if b then Some LevelFault.TooManyLevels else None) (le-leb 1024 (other_levels target index seen) full)

pub returns : goal.returns
returns c =
    let target = c.args.target.now in
    let index = c.args.index in
    let seen = c.args.self.now in
    let names = c.count.ensures
    ∙ ap (λ (k : Configured). min (count_levels k.names) 18446744073709551615) c.self.view_is in
    let patterns =
    c.count-2.ensures ∙ ap (λ (k : Configured). min (count_levels k.patterns) 18446744073709551615) c.self.view_is in
    let left = room-left _ _ (other_levels target index seen) _ _ _ _ _ _ (others-count target index seen)
    names patterns c.saturating_add-all.ensures c.count_of-own.ensures c.saturating_sub.ensures
    c.if-saturating_sub-ge-MOST_LEVELS.false in
    ap (λ b. if b then Some LevelFault.TooManyLevels else None) (lt-leb 1024 (other_levels target index seen) left)
