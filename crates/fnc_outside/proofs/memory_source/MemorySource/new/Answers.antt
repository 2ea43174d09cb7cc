use Rattle.std.proofs.Common.{◌≤◌, ◌+◌, length, arith}
use Rattle.fnc_outside.specs.Lines.{lines_of}
use Rattle.fnc_outside.proofs.Cutting.{lines_by_feeds}
use Rattle.fnc_outside.proofs.memory_source.MemorySource.new.Goals as goal

-- the room for what is taken is that of all lines
pub invariant_of-result : goal.invariant_of-result
invariant_of-result c =
    let room : length (lines_of c.args.bytes.now)
    ≤ c.line_feeds.result + 1 = rw c.line_feeds.ensures.count (lines_by_feeds c.args.bytes.now) in (
      omega arith,
      rw c.in_ok-from_slice.ensures.items
          (omega (arith, room, c.in_ok-with_capacity.ensures.capacity, c.in_ok-with_capacity.ensures.len)),
    )
