-- The allowed tries of the slots that a plan gives an operation, which are few.
use Rattle.std.proofs.Common.{
  ℕ,
  List,
  [],
  ◌∷◌,
  ◌++◌,
  Bool,
  true,
  false,
  ◌≡◌,
  ◌≤◌,
  ◌+◌,
  ◌*◌,
  refl,
  Option,
  Some,
  None,
  cond,
  arith,
  length,
  map,
}
use Rattle.std.specs.Prelude.{option_map, filter_map}
use Rattle.std.specs.List.{AllByRecursion, cons_option}
use Rattle.fnc_journal.specs.declared.limits.TheConstants.{MOST_DEVICES_OF_LEVEL, MOST_TRIES}
use Rattle.fnc_journal.specs.declared.entry.Kind.{Kind}
use Rattle.fnc_journal.specs.declared.entry.Phase.{Phase}
use Rattle.fnc_journal.specs.declared.plan.Candidate.{Candidate}
use Rattle.fnc_journal.specs.declared.plan.PlanLevel.{PlanLevel}
use Rattle.fnc_journal.specs.History.{History}
use Rattle.fnc_journal.specs.Device.{Device}
use Rattle.fnc_journal.specs.Slots.{
  Task,
  QueriedDevice,
  tries,
  task,
  act_task,
  acts_from,
  ons_from,
  is_split,
  fit_devices,
  rank_of,
  device_of,
  place_of,
  queried,
  queried_from,
  ranked_from,
  slots_of,
}
use Rattle.fnc_journal.specs.Owed.{tries_of}
use Rattle.fnc_ops.specs.Stands.{AreBounded, AreFewDevices}
use Rattle.fnc_records.proofs.LevelSteps.{ForSome}
use Rattle.fnc_ops.proofs.FreshDevices.{IsBoundedDevice, bounded-device, bounded-devices, devices-few}
use Rattle.fnc_ops.proofs.FreshSlots.{allowed-few}
use Rattle.fnc_records.proofs.Ranking.{one_device}

pub tries_of-append : (xs ys : List Task) → tries_of (xs ++ ys) ≡ tries_of xs + tries_of ys
tries_of-append [] ys = let e : tries_of ys ≡ 0 + tries_of ys = omega arith in e
tries_of-append (t ∷ ts) ys = let ih : tries_of (ts ++ ys) ≡ tries_of ts + tries_of ys = tries_of-append ts ys in
    omega (arith, ih)

-- a candidate has one Act slot, whatever its level
pub ranked-tries : (kind : Kind) (k : ℕ) (c : QueriedDevice) (cs : List QueriedDevice) →
    tries_of (slots_of (ranked_from kind k (c ∷ cs))) ≡ tries (act_task false kind 0 0 c.device) + tries_of
    (slots_of (ranked_from kind (k + 1) cs))
ranked-tries kind k c cs = rw (one_device kind c.device) refl

-- each slot is allowed at most 16 tries
task-tries : (t : Task) → IsBoundedDevice (record { reg = t.reg; definition = t.definition }) → tries t ≤ MOST_TRIES
task-tries t b = (allowed-few t.definition t.kind b).tries

act-tries : (split : Bool) (kind : Kind) (level place : ℕ) (d : Device) → IsBoundedDevice d →
    tries (act_task split kind level place d) ≤ MOST_TRIES
act-tries true kind level place d b = task-tries (act_task true kind level place d) b
act-tries false kind level place d b = task-tries (act_task false kind level place d) b

acts-tries : (split : Bool) (kind : Kind) (level place : ℕ) (ds : List Device) → AllByRecursion IsBoundedDevice ds →
    tries_of (acts_from split kind level place ds) ≤ MOST_TRIES * length ds
acts-tries split kind level place [] b = omega arith
acts-tries split kind level place (d ∷ ds) b =
    let here : tries (act_task split kind level place d) ≤ MOST_TRIES = act-tries split kind level place d b.0 in
    let rest : tries_of (acts_from split kind level (place + 1) ds) ≤ MOST_TRIES * length ds =
    acts-tries split kind level (place + 1) ds b.1 in
    omega (arith, here, rest)

ons-tries : (level place : ℕ) (ds : List Device) → AllByRecursion IsBoundedDevice ds →
    tries_of (ons_from level place ds) ≤ MOST_TRIES * length ds
ons-tries level place [] b = omega arith
ons-tries level place (d ∷ ds) b = go d.definition.actions.on (task-tries (task Phase.On Kind.On level place d) b.0)
    (ons-tries level (place + 1) ds b.1)
  where
    go : (c : Bool) → tries (task Phase.On Kind.On level place d) ≤ MOST_TRIES →
        tries_of (ons_from level (place + 1) ds) ≤ MOST_TRIES * length ds →
        tries_of (cons_option (cond c (Some (task Phase.On Kind.On level place d)) None)
        (ons_from level (place + 1) ds)) ≤ MOST_TRIES * length (d ∷ ds)
    go true here rest = omega (arith, here, rest)
    go false here rest = omega (arith, rest)

ons-where : (split : Bool) (level : ℕ) (ds : List Device) → AllByRecursion IsBoundedDevice ds →
    tries_of (cond split (ons_from level 0 ds) []) ≤ MOST_TRIES * length ds
ons-where true level ds b = ons-tries level 0 ds b
ons-where false level ds b = omega arith

module _ (kind : Kind) (h : History) (bounded : AreBounded h) where
  pub level-tries : (l : PlanLevel) → length l.devices ≤ MOST_DEVICES_OF_LEVEL →
      tries_of ((rank_of kind h l).firsts ++ (rank_of kind h l).ons) ≤ 256
  level-tries l few =
      let both : tries_of ((rank_of kind h l).firsts ++ (rank_of kind h l).ons) ≡ tries_of (rank_of kind h l).firsts +
      tries_of (rank_of kind h l).ons =
      tries_of-append (rank_of kind h l).firsts (rank_of kind h l).ons in
      let firsts : tries_of (rank_of kind h l).firsts ≤ MOST_TRIES * length
      (fit_devices (map (place_of kind h) l.devices)) =
      acts-tries (is_split kind (fit_devices (map (place_of kind h) l.devices))) kind l.index 0
      (fit_devices (map (place_of kind h) l.devices)) (bounded-devices kind h bounded l.devices) in
      let ons : tries_of (rank_of kind h l).ons ≤ MOST_TRIES * length (fit_devices (map (place_of kind h) l.devices)) =
      ons-where (is_split kind (fit_devices (map (place_of kind h) l.devices))) l.index
      (fit_devices (map (place_of kind h) l.devices)) (bounded-devices kind h bounded l.devices) in
      let most : length (fit_devices (map (place_of kind h) l.devices)) ≤ length l.devices =
      devices-few kind h l.devices in
      omega (arith, both, firsts, ons, most, few)

  pub levels-few : (ls : List PlanLevel) → AreFewDevices ls → tries_of (slots_of (map (rank_of kind h) ls)) ≤ 256 *
      length ls
  levels-few [] few = omega arith
  levels-few (l ∷ ls) few =
      let both : tries_of (slots_of (map (rank_of kind h) (l ∷ ls))) ≡ tries_of
      ((rank_of kind h l).firsts ++ (rank_of kind h l).ons) + tries_of (slots_of (map (rank_of kind h) ls)) =
      tries_of-append ((rank_of kind h l).firsts ++ (rank_of kind h l).ons) (slots_of (map (rank_of kind h) ls)) in
      let here : tries_of ((rank_of kind h l).firsts ++ (rank_of kind h l).ons) ≤ 256 = level-tries l few.0 in
      let rest : tries_of (slots_of (map (rank_of kind h) ls)) ≤ 256 * length ls = levels-few ls few.1 in
      omega (arith, both, here, rest)

  pub queries-few : (place : ℕ) (cs : List Candidate) →
      tries_of (filter_map (λ (c : QueriedDevice). c.query) (queried_from place h cs)) ≤ MOST_TRIES * length cs
  queries-few place [] = omega arith
  queries-few place (c ∷ cs) = go (device_of h c.reg) (bounded-device h bounded c.reg) c.query
      (queries-few (place + 1) cs)
    where
      go : (x : Option Device) → ForSome IsBoundedDevice x → (q : Option Kind) →
          tries_of (filter_map (λ (c : QueriedDevice). c.query) (queried_from (place + 1) h cs)) ≤ MOST_TRIES * length
          cs →
          tries_of (filter_map (λ (c : QueriedDevice). c.query) (cons_option (option_map (queried place q) x)
          (queried_from (place + 1) h cs))) ≤ MOST_TRIES * length (c ∷ cs)
      go None b q k = omega (arith, k)
      go (Some d) b None k = omega (arith, k)
      go (Some d) b (Some asks) k = let here : tries (task Phase.Query asks 0 place d) ≤ MOST_TRIES =
          task-tries (task Phase.Query asks 0 place d) b in omega (arith, here, k)

  pub acts-few : (k place : ℕ) (cs : List Candidate) →
      tries_of (slots_of (ranked_from kind k (queried_from place h cs))) ≤ MOST_TRIES * length cs
  acts-few k place [] = omega arith
  acts-few k place (c ∷ cs) = go (device_of h c.reg) (bounded-device h bounded c.reg) (λ n. acts-few n (place + 1) cs)
    where
      go : (x : Option Device) → ForSome IsBoundedDevice x →
          ((n : ℕ) → tries_of (slots_of (ranked_from kind n (queried_from (place + 1) h cs))) ≤ MOST_TRIES * length
          cs) →
          tries_of (slots_of (ranked_from kind k (cons_option (option_map (queried place c.query) x)
          (queried_from (place + 1) h cs)))) ≤ MOST_TRIES * length (c ∷ cs)
      go None b ih = let rest : tries_of (slots_of (ranked_from kind k (queried_from (place + 1) h cs))) ≤ MOST_TRIES *
          length cs = ih k in omega (arith, rest)
      go (Some d) b ih =
          let one : tries_of (slots_of (ranked_from kind k (queried place c.query d ∷ queried_from (place + 1) h cs)))
          ≡ tries (act_task false kind 0 0 d) + tries_of
          (slots_of (ranked_from kind (k + 1) (queried_from (place + 1) h cs))) =
          ranked-tries kind k (queried place c.query d) (queried_from (place + 1) h cs) in
          let here : tries (act_task false kind 0 0 d) ≤ MOST_TRIES = act-tries false kind 0 0 d b in
          let rest : tries_of (slots_of (ranked_from kind (k + 1) (queried_from (place + 1) h cs))) ≤ MOST_TRIES *
          length cs = ih (k + 1) in
          omega (arith, one, here, rest)
