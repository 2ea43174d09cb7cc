-- The core's parts as contracts see them.
use Rattle.std.specs.Prelude.{ℕ, List}
use Rattle.fnc_journal.specs.declared.entry.Entry.{Entry}
use Rattle.fnc_ops.specs.Kept.{Kept}
use Rattle.fnc_queue.specs.Queued.{Queued}

-- the journal, the newest entry first, with its limit; the records of its operations; and the queue
pub record Parted : Type 0 where
  pub history : List Entry
  pub limit : ℕ
  pub ops : Kept
  pub queue : Queued
