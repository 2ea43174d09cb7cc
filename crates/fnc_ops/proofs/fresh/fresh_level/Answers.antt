-- The level is unfit, or it is not.
use Rattle.std.proofs.Common.{◌≡◌, ◌∙◌, sym, ap, map, true, false, subst}
use Rattle.std.specs.Prelude.{is_none, IfOk}
use Rattle.std.specs.List.{list_any}
use Rattle.fnc_journal.specs.Slots.{place_of}
use Rattle.fnc_records.specs.KeptLevel.{KeptLevel}
use Rattle.fnc_ops.specs.FreshRecords.{fit_level}
use Rattle.fnc_ops.proofs.FreshLevels.{any-map, level-unfit, level-fit}
use Rattle.fnc_ops.proofs.fresh.fresh_level.Goals as goal

pub returns-then-is_unfit : goal.returns-then-is_unfit
returns-then-is_unfit c =
    let unfit : list_any is_none (map (place_of c.args.operation.now.kind c.args.journal.now.history)
    c.args.level.now.devices) ≡ true =
    any-map is_none (place_of c.args.operation.now.kind c.args.journal.now.history) c.args.level.now.devices
    ∙ ap (list_any (λ p. is_none (place_of c.args.operation.now.kind c.args.journal.now.history p)))
    (sym c.as_slice-places.ensures)
    ∙ sym c.if-is_unfit.ensures in
    c.unfit_level.ensures
    ∙ level-unfit c.args.operation.now.target c.args.operation.now.coin c.args.operation.now.kind
    c.args.level.now.index (map (place_of c.args.operation.now.kind c.args.journal.now.history)
    c.args.level.now.devices) unfit

pub returns-else-is_unfit : goal.returns-else-is_unfit
returns-else-is_unfit c =
    let fit : list_any is_none (map (place_of c.args.operation.now.kind c.args.journal.now.history)
    c.args.level.now.devices) ≡ false =
    any-map is_none (place_of c.args.operation.now.kind c.args.journal.now.history) c.args.level.now.devices
    ∙ ap (list_any (λ p. is_none (place_of c.args.operation.now.kind c.args.journal.now.history p)))
    (sym c.as_slice-places.ensures)
    ∙ sym c.if-is_unfit.ensures in
    subst (λ (k : KeptLevel). IfOk c.fit_level.result (λ l. l ≡ k))
    (ap (λ ps. fit_level c.args.operation.now.target c.args.operation.now.coin c.args.operation.now.kind
    c.args.level.now.index (map (place_of c.args.operation.now.kind c.args.journal.now.history) ps))
    c.as_slice-places.ensures
    ∙ level-fit c.args.operation.now.target c.args.operation.now.coin c.args.operation.now.kind c.args.level.now.index
    (map (place_of c.args.operation.now.kind c.args.journal.now.history) c.args.level.now.devices) fit)
    c.fit_level.ensures
