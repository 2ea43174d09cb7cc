-- What a sink in memory is seen as.
use Rattle.std.specs.Prelude.{ℕ, ◌+◌, ◌-◌, ◌==◌, List, [], ◌∷◌, ◌++◌, length, take, Bool, Option, Some}
use Rattle.std.specs.Prelude.{None, nat_le, nat_lt, is_some, ◌||◌, if◌then◌else◌}
use Rattle.std.specs.List.{list_any}
use Rattle.fnc_outside.specs.Faults.{one_more}
use Rattle.fnc_outside.specs.declared.memory_sink.Torn.{Torn}

-- The bytes held, and the most that it can hold. How many of those held were sent on. The number of the next write, and
-- the writes that tear; the number of the next flush, and the numbers of those that fail. The count of faults.
pub record Stored : Type 0 where
  pub held : List ℕ
  pub size : ℕ
  pub sent : ℕ
  pub writes : ℕ
  pub torn : List Torn
  pub flushes : ℕ
  pub failing : List ℕ
  pub faults : ℕ

-- a sink of which nothing was asked yet
abbrev pub unused : ℕ → List Torn → List ℕ → Stored
unused size torn failing = record {
  held = [];
  size = size;
  sent = 0;
  writes = 0;
  torn = torn;
  flushes = 0;
  failing = failing;
  faults = 0;
}

-- how many of the bytes held are still to be sent on
abbrev pub unsent : Stored → ℕ
unsent sink = length sink.held - sink.sent

-- how many bytes of its piece a write keeps, where it is one that tears; the first item of its number counts
abbrev pub kept_of : List Torn → ℕ → Option ℕ
kept_of [] write = None
kept_of (item ∷ items) write = if item.write == write then Some item.kept else kept_of items write

-- what is to be appended by a write of this piece
abbrev pub part_of : Option ℕ → List ℕ → List ℕ
part_of None piece = piece
part_of (Some kept) piece = take kept piece

-- there is room for these bytes
abbrev pub has_room : Stored → List ℕ → Bool
has_room sink bytes = nat_le (length sink.held + length bytes) sink.size

-- a write of the piece fails: it tears, or its bytes have no room
abbrev pub write_fails : Stored → List ℕ → Bool
write_fails sink piece = is_some (kept_of sink.torn sink.writes) || nat_lt sink.size (length sink.held + length piece)

-- the sink after a write of the piece, which leaves nothing where its bytes have no room
abbrev pub after_write : Stored → List ℕ → Stored
after_write sink piece = record sink {
  held = (
      let part = part_of (kept_of sink.torn sink.writes) piece in
      if has_room sink part then sink.held ++ part else sink.held);
  writes = one_more sink.writes;
  faults = if write_fails sink piece then one_more sink.faults else sink.faults;
}

-- the next flush is one of those that fail
abbrev pub flush_fails : Stored → Bool
flush_fails sink = list_any (λ number. number == sink.flushes) sink.failing

-- the sink after a flush: all that is held was sent on, or, where it fails, what was not is lost
abbrev pub after_flush : Stored → Stored
after_flush sink = if flush_fails sink then record sink {
  held = take sink.sent sink.held;
  flushes = one_more sink.flushes;
  faults = one_more sink.faults;
} else record sink {
  sent = length sink.held;
  flushes = one_more sink.flushes;
}
