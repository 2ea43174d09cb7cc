-- The record of a slot that begins, whose device's definition is within its bounds.
use Rattle.std.proofs.Common.{
  ℕ,
  List,
  [],
  ◌∷◌,
  Bool,
  true,
  false,
  ◌≡◌,
  ◌≤◌,
  ◌<◌,
  ◌+◌,
  ◌-◌,
  ◌%◌,
  ◌^◌,
  refl,
  IsTrue,
  arith,
  cond,
  nat_le,
  nat_lt,
  leb-true,
  leb-false,
  ◌&&◌,
  length,
}
use Rattle.std.proofs.Math.Nat.{mod-lt}
use Rattle.std.proofs.lemmas.Bool.{and_parts, ltb-true}
use Rattle.std.specs.Prelude.{bytes_eq}
use Rattle.std.specs.List.{list_all}
use Rattle.fnc_journal.specs.declared.limits.TheConstants.{DAY, MOST_HOSTS, MOST_TRIES}
use Rattle.fnc_journal.specs.declared.entry.Kind.{Kind}
use Rattle.fnc_journal.specs.declared.definition.Allowed.{Allowed}
use Rattle.fnc_journal.specs.declared.definition.Base.{Base}
use Rattle.fnc_journal.specs.declared.definition.Definition.{Definition}
use Rattle.fnc_journal.specs.declared.definition.Delay.{Delay}
use Rattle.fnc_journal.specs.Bounds.{IsBounded, is_allowed, is_action_word, is_base, is_delay, is_node, is_time}
use Rattle.fnc_journal.specs.Device.{allowed, base_of, delay, delay_for, drawn, cuts_power}
use Rattle.fnc_journal.specs.Slots.{Task, Operation}
use Rattle.fnc_journal.specs.Acts.{is_query}
use Rattle.fnc_ops.specs.FreshRecords.{fresh_slot}
use Rattle.fnc_records.specs.SlotFacts.{IsSlot}
use Rattle.fnc_records.specs.LevelFacts.{IsShort, IsTrying, IsLevelSlot, IsQuerySlot}

-- an action's time and tries are within bounds
pub record IsFew (a : Allowed) : Type 0 where
  pub begins : 0 < a.time
  pub lasts : a.time ≤ DAY
  pub tries : a.tries ≤ MOST_TRIES

few : (a : Allowed) → IsTrue (is_allowed a) → IsFew a
few a b =
    let most = and_parts (is_action_word a.word && nat_lt 0 a.time && is_time a.time && nat_lt 0 a.tries)
    (nat_le a.tries MOST_TRIES) b in
    let tried = and_parts (is_action_word a.word && nat_lt 0 a.time && is_time a.time) (nat_lt 0 a.tries) most.0 in
    let lasts = and_parts (is_action_word a.word && nat_lt 0 a.time) (is_time a.time) tried.0 in
    let begins = and_parts (is_action_word a.word) (nat_lt 0 a.time) lasts.0 in
    record {
      begins = ltb-true 0 a.time begins.1;
      lasts = leb-true a.time DAY lasts.1;
      tries =
          leb-true a.tries MOST_TRIES most.1;
    }

pub allowed-few : (d : Definition) (kind : Kind) → IsBounded d → IsFew (allowed d kind)
allowed-few d Kind.On b = few d.on b.on
allowed-few d Kind.Off b = few d.off b.off_allowed
allowed-few d Kind.Reboot b = few d.reboot b.reboot
allowed-few d Kind.List b = few d.list b.list
allowed-few d Kind.Status b = few d.status b.status

delays-short : (ds : List Delay) (target : List ℕ) → list_all is_delay ds ≡ true → delay_for ds target ≤ DAY
delays-short [] target e = omega arith
delays-short (d ∷ ds) target e =
    let parts = and_parts (is_delay d) (list_all is_delay ds) e in
    go (bytes_eq target d.name) (leb-true d.ms DAY (and_parts (is_node d.name) (is_time d.ms) parts.0).1)
    (delays-short ds target parts.1)
  where
    go : (b : Bool) → d.ms ≤ DAY → delay_for ds target ≤ DAY → cond b d.ms (delay_for ds target) ≤ DAY
    go true k ih = k
    go false k ih = ih

base-short : (b : Base) (target : List ℕ) → is_base b ≡ true → base_of b target ≤ DAY
base-short (Base.Fixed ms) target e = leb-true ms DAY e
base-short (Base.ByNode ds) target e =
    delays-short ds target (and_parts (nat_lt 0 (length ds) && nat_le (length ds) MOST_HOSTS) (list_all is_delay ds)
    e).1

drawn-short : (base most coin : ℕ) → base ≤ DAY → most ≤ DAY → drawn base most coin < 2 ^ 62
drawn-short base most coin b m = go (nat_le most base) refl
  where
    go : (c : Bool) → nat_le most base ≡ c → cond c base (base + coin % (most - base)) < 2 ^ 62
    go true e = omega (arith, b)
    go false e =
        let greater : base < most = leb-false most base e in
        let some : 0 < most - base = omega (arith, greater) in
        let less : coin % (most - base) < most - base = mod-lt coin some in
        omega (arith, b, m, less)

pub delay-short : (d : Definition) (kind : Kind) (target : List ℕ) (coin : ℕ) → IsBounded d →
    delay d kind target coin < 2 ^ 62
delay-short d kind target coin b = go (cuts_power kind)
  where
    go : (c : Bool) → cond c (drawn (base_of d.base target) d.max coin) 0 < 2 ^ 62
    go true = drawn-short (base_of d.base target) d.max coin (base-short d.base target b.base)
        (leb-true d.max DAY b.max)
    go false = omega arith

pub task-short : (o : Operation) (t : Task) → IsBounded t.definition → IsShort o t
task-short o t b =
    let f = allowed-few t.definition t.kind b in
    let lasts : (allowed t.definition t.kind).time ≤ DAY = f.lasts in
    record {
      begins = f.begins;
      lasts = omega (arith, lasts);
      waits = delay-short t.definition t.kind o.target o.coin
          b;
      few = f.tries;
    }

-- nothing was started of it
slot-fresh : (o : Operation) (t : Task) → IsSlot o [] (fresh_slot o.target o.coin t) t
slot-fresh o t = record {
  slot = refl;
  reg = refl;
  kind = refl;
  time_is = refl;
  tries_is = refl;
  delay_is = refl;
  runs_are = refl;
  failed_are = refl;
  succeeded = refl;
  listed = refl;
  end_is = refl;
  last_is = refl;
  succeeded_at = refl;
  failed_at = refl;
}

trying-fresh : (o : Operation) (t : Task) → IsTrying (fresh_slot o.target o.coin t)
trying-fresh o t = record { few = omega arith; running = λ at e. cc }

pub level_slot-fresh : (o : Operation) (t : Task) → is_query t ≡ false → IsBounded t.definition →
    IsLevelSlot o [] (fresh_slot o.target o.coin t) t
level_slot-fresh o t acting b = record {
  is = slot-fresh o t;
  acting = acting;
  short = task-short o t b;
  trying =
      trying-fresh o t;
}

pub query_slot-fresh : (o : Operation) (t : Task) → is_query t ≡ true → IsBounded t.definition →
    IsQuerySlot o [] (fresh_slot o.target o.coin t) t
query_slot-fresh o t asking b = record {
  is = slot-fresh o t;
  asking = asking;
  short = task-short o t b;
  trying =
      trying-fresh o t;
}
