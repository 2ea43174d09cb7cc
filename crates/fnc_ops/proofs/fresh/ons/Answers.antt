-- The step of the loop.
use Rattle.std.proofs.Common.{◌<◌, ◌+◌, ◌++◌, ap, ◌∙◌, map, drop, length, arith}
use Rattle.fnc_journal.specs.Missing.{append_some}
use Rattle.fnc_journal.specs.Slots.{place_of}
use Rattle.fnc_ops.specs.FreshRecords.{fresh_slot, ons_at}
use Rattle.fnc_ops.proofs.FreshLevels.{append_more, drop-next}
use Rattle.fnc_ops.proofs.fresh.ons.Goals as goal

pub loop-reg-preserved : goal.loop-reg-preserved
loop-reg-preserved c =
    let within : c.loop-reg.reg-index < length c.args.places.now = omega arith in (
      ap (λ n. n + 1) c.loop-reg.invariant.0,
      ap (λ ys. ys ++ map (fresh_slot c.args.operation.now.target c.args.operation.now.coin)
          (ons_at c.args.level (c.loop-reg.place + 1)
          (map (place_of c.args.operation.now.kind c.args.journal.now.history)
          (drop (c.loop-reg.reg-index + 1) c.args.places.now))))
          (c.in_ok-push_slot.ensures ∙ ap (append_some c.loop-reg.slots.items) c.on_at-slot.ensures)
          ∙ append_more (fresh_slot c.args.operation.now.target c.args.operation.now.coin) c.loop-reg.slots.items _ _
          ∙ ap (λ xs. c.loop-reg.slots.items ++ map (fresh_slot c.args.operation.now.target c.args.operation.now.coin)
          (ons_at c.args.level c.loop-reg.place
          (map (place_of c.args.operation.now.kind c.args.journal.now.history) xs)))
          (drop-next c.args.places.now c.loop-reg.reg-index _ within)
          ∙ c.loop-reg.invariant.1,
    )
