-- What a source and a sink tell of themselves, before a call and after it.
use Rattle.std.specs.Prelude.{ℕ, List, Option}
use Rattle.fnc_outside.specs.Events.{Happening}

-- what a source tells: the events that it gave so far, those that are left, and its count of faults
pub record SourceTold : Type 0 where
  pub given : Option (List Happening)
  pub left : Option (List Happening)
  pub faults : ℕ

-- what a sink tells: the bytes that it holds, how many of them are still to be sent on, and its count of faults
pub record SinkTold : Type 0 where
  pub held : Option (List ℕ)
  pub unsent : ℕ
  pub faults : ℕ

-- what was told before a call, and what is told after it
pub record Change (Told : Type 0) : Type 0 where
  pub before : Told
  pub after : Told

-- what a source tells, by the three things that its trait lets it tell
abbrev pub source_told : {S : Type 0} → (S → Option (List Happening)) → (S → Option (List Happening)) → (S → ℕ) → S →
    SourceTold
source_told given left faults source = record { given = given source; left = left source; faults = faults source }

-- what a sink tells, by the three things that its trait lets it tell
abbrev pub sink_told : {K : Type 0} → (K → Option (List ℕ)) → (K → ℕ) → (K → ℕ) → K → SinkTold
sink_told held unsent faults sink = record { held = held sink; unsent = unsent sink; faults = faults sink }

-- from what was told to what is told
abbrev pub change : {Told : Type 0} → Told → Told → Change Told
change before after = record { before = before; after = after }
