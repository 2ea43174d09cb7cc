use Rattle.std.proofs.Common.{◌≡◌, ◌++◌, map, drop}
use Rattle.fnc_journal.specs.Slots.{place_of}
use Rattle.fnc_ops.specs.FreshRecords.{fresh_slot, ons_at}
use Rattle.fnc_ops.proofs.fresh.ons.Given as goal

-- the slots so far, and those of the places that are left
abbrev pub invariant-loop-reg : goal.invariant-loop-reg
invariant-loop-reg l =
    (l.place ≡ l.reg-index)
    × (l.slots.items ++ map (fresh_slot l.operation.target l.operation.coin)
    (ons_at l.level l.place (map (place_of l.operation.kind l.journal.history) (drop l.reg-index l.places)))
    ≡ map (fresh_slot l.operation.target l.operation.coin)
    (ons_at l.level 0 (map (place_of l.operation.kind l.journal.history) l.places)))
