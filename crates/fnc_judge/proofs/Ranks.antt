-- The slots of a level, read off the names of its devices.
use Rattle.std.proofs.Common.{ℕ, List, [], ◌∷◌, Bool, true, false, ◌≡◌, ◌+◌, ◌||◌, refl, ap, Option, Some, None}
use Rattle.std.specs.Prelude.{map, filter_map, is_none, option_map, option_and_then}
use Rattle.std.specs.List.{list_any, cons_option}
use Rattle.fnc_journal.specs.declared.entry.Kind.{Kind}
use Rattle.fnc_journal.specs.History.{History}
use Rattle.fnc_journal.specs.Device.{Device}
use Rattle.fnc_journal.specs.Registered.{current}
use Rattle.fnc_journal.specs.Levels.{Level}
use Rattle.fnc_journal.specs.Plan.{reg_of, plan_level}
use Rattle.fnc_journal.specs.Slots.{
  Operation,
  place_of,
  rank_of,
  rank,
  is_split,
  acts_from,
  ons_from,
  act_task,
  on_task,
}
use Rattle.fnc_judge.specs.Places.{is_unfit, firsts_over, ons_over}
use Rattle.fnc_search.specs.Placed.{placed}
use Rattle.fnc_judge.specs.Surveys.{Survey, rank_over, ranks_for, is_split_over, surveyed, surveyed_all, surveyed_any}
use Rattle.fnc_search.proofs.Rising.{before_it}
use Rattle.fnc_journal.specs.Acts.{Act}

-- the places of the names
abbrev places : Kind → History → List (List ℕ) → List (Option Device)
places kind before names = map (place_of kind before) (map (λ name. option_map reg_of (current name before)) names)

unfit-same : (kind : Kind) (before : History) (names : List (List ℕ)) →
    list_any is_none (places kind before names) ≡ is_unfit kind before names
unfit-same kind before [] = refl
unfit-same kind before (name ∷ names) = ap (λ b. is_none (placed kind before name) || b) (unfit-same kind before names)

-- the devices of the places
abbrev here : List (Option Device) → List Device
here ps = filter_map (λ d. d) ps

firsts-same : (split : Bool) (kind : Kind) (before : History) (level place : ℕ) (names : List (List ℕ)) →
    is_unfit kind before names ≡ false →
    acts_from split kind level place (here (places kind before names)) ≡ firsts_over split kind before level place names
firsts-same split kind before level place [] f = refl
firsts-same split kind before level place (name ∷ names) f =
    go (placed kind before name) f (λ k. firsts-same split kind before level (place + 1) names k)
  where
    go : (d : Option Device) → (is_none d || is_unfit kind before names) ≡ false →
        (is_unfit kind before names ≡ false →
        acts_from split kind level (place + 1) (here (places kind before names))
        ≡ firsts_over split kind before level (place + 1) names) →
        acts_from split kind level place (cons_option d (here (places kind before names)))
        ≡ cons_option (option_map (act_task split kind level place) d)
        (firsts_over split kind before level (place + 1) names)
    go None f ih = cc
    go (Some d) f ih = ap (λ ts. act_task split kind level place d ∷ ts) (ih f)

ons-same : (kind : Kind) (before : History) (level place : ℕ) (names : List (List ℕ)) →
    is_unfit kind before names ≡ false →
    ons_from level place (here (places kind before names)) ≡ ons_over kind before level place names
ons-same kind before level place [] f = refl
ons-same kind before level place (name ∷ names) f =
    go (placed kind before name) f (λ k. ons-same kind before level (place + 1) names k)
  where
    go : (d : Option Device) → (is_none d || is_unfit kind before names) ≡ false →
        (is_unfit kind before names ≡ false →
        ons_from level (place + 1) (here (places kind before names))
        ≡ ons_over kind before level (place + 1) names) →
        ons_from level place (cons_option d (here (places kind before names)))
        ≡ cons_option (option_and_then (on_task level place) d) (ons_over kind before level (place + 1) names)
    go None f ih = cc
    go (Some d) f ih = ap (λ ts. cons_option (on_task level place d) ts) (ih f)

split-same : (kind : Kind) (before : History) (names : List (List ℕ)) → is_unfit kind before names ≡ false →
    is_split kind (here (places kind before names)) ≡ is_split_over kind names
split-same Kind.Reboot before [] f = refl
split-same Kind.Reboot before (a ∷ []) f = go (placed Kind.Reboot before a)
  where
    go : (d : Option Device) → is_split Kind.Reboot (cons_option d []) ≡ false
    go None = refl
    go (Some d) = refl
split-same Kind.Reboot before (a ∷ b ∷ names) f = go (placed Kind.Reboot before a) (placed Kind.Reboot before b) f
  where
    go : (d e : Option Device) → (is_none d || (is_none e || is_unfit Kind.Reboot before names)) ≡ false →
        is_split Kind.Reboot (cons_option d (cons_option e (here (places Kind.Reboot before names)))) ≡ true
    go None e f = cc
    go (Some d) None f = cc
    go (Some d) (Some e) f = refl
split-same Kind.On before names f = refl
split-same Kind.Off before names f = refl
split-same Kind.List before names f = refl
split-same Kind.Status before names f = refl

none-split : (kind : Kind) → is_split kind [] ≡ false
none-split Kind.Reboot = refl
none-split Kind.On = refl
none-split Kind.Off = refl
none-split Kind.List = refl
none-split Kind.Status = refl

pub rank-same : (kind : Kind) (before : History) (l : Level) →
    rank_of kind before (plan_level before l) ≡ rank_over kind before l
rank-same kind before l = go (is_unfit kind before l.devices) refl
  where
    ps : List (Option Device)
    ps = places kind before l.devices

    go : (b : Bool) → is_unfit kind before l.devices ≡ b → rank kind l.index ps ≡ rank_over kind before l
    go true p = rw (unfit-same kind before l.devices, p, none-split kind) refl
    go false p =
        rw (
          unfit-same kind before l.devices,
          p,
          split-same kind before l.devices p,
          firsts-same (is_split_over kind l.devices) kind before l.index 0 l.devices p,
          ons-same kind before l.index 0 l.devices p,
        ) refl

-- the levels of a plan, one after another
pub survey-next : (o : Operation) (m : ℕ) (acts : List Act) (s : Survey) (kind : Kind) (before : History)
    (l : Option Level) (ls : List Level) →
    surveyed_all o m acts s (ranks_for kind before (before_it l ls))
    ≡ surveyed_all o m acts (surveyed_any o m acts s (option_map (rank_over kind before) l))
    (ranks_for kind before ls)
survey-next o m acts s kind before None ls = refl
survey-next o m acts s kind before (Some l) ls =
    ap (λ r. surveyed_all o m acts (surveyed o m acts s r) (ranks_for kind before ls)) (rank-same kind before l)
