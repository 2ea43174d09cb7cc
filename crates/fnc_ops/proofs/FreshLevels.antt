-- The record of a level that begins, by the devices at its places.
use Rattle.std.proofs.Common.{
  ℕ,
  List,
  [],
  ◌∷◌,
  ◌++◌,
  Bool,
  true,
  false,
  ◌≡◌,
  ◌+◌,
  refl,
  ap,
  sym,
  Option,
  Some,
  None,
  map,
  length,
  append_assoc,
  ◌||◌,
  arith,
  ◌<◌,
  drop,
  get_or,
  drop-cons,
  add-one,
}
use Rattle.std.proofs.lemmas.Bool.{le-leb}
use Rattle.std.specs.Prelude.{option_map, is_none, filter_map}
use Rattle.std.specs.List.{list_any, cons_option}
use Rattle.fnc_journal.specs.declared.entry.Kind.{Kind}
use Rattle.fnc_journal.specs.Missing.{append_some}
use Rattle.fnc_journal.specs.Device.{Device}
use Rattle.fnc_journal.specs.Slots.{act_task, on_task, acts_from, ons_from, is_split, rank}
use Rattle.fnc_ops.specs.FreshRecords.{firsts_at, ons_at, splits, fresh_level, unfit_level, fit_level}

-- one more, where it is there
pub append_more : {X Y : Type 0} (f : X → Y) (ys : List Y) (x : Option X) (xs : List X) →
    append_some ys (option_map f x) ++ map f xs ≡ ys ++ map f (cons_option x xs)
append_more f ys None xs = refl
append_more f ys (Some x) xs = simp append_assoc

-- what is left of a list, element by element
pub drop-next : {X : Type 0} (xs : List X) (i : ℕ) (d : X) → i < length xs → get_or xs i d ∷ drop (i + 1) xs ≡ drop i xs
drop-next xs i d within = rw (add-one i) (sym (drop-cons xs i d within))

-- whether one of them has it
pub any-map : {X Y : Type 0} (p : Y → Bool) (f : X → Y) (xs : List X) → list_any p (map f xs) ≡ list_any (λ x. p (f x))
    xs
any-map p f [] = refl
any-map p f (x ∷ xs) = ap (λ b. p (f x) || b) (any-map p f xs)

-- where all are there, their places are those of the list
firsts-there : (split : Bool) (kind : Kind) (level place : ℕ) (ds : List (Option Device)) →
    list_any is_none ds ≡ false →
    firsts_at split kind level place ds ≡ acts_from split kind level place (filter_map (λ d. d) ds)
firsts-there split kind level place [] e = refl
firsts-there split kind level place (None ∷ ds) e = cc
firsts-there split kind level place (Some d ∷ ds) e = ap (λ ts. act_task split kind level place d ∷ ts)
    (firsts-there split kind level (place + 1) ds e)

ons-there : (level place : ℕ) (ds : List (Option Device)) → list_any is_none ds ≡ false →
    ons_at level place ds ≡ ons_from level place (filter_map (λ d. d) ds)
ons-there level place [] e = refl
ons-there level place (None ∷ ds) e = cc
ons-there level place (Some d ∷ ds) e = ap (cons_option (on_task level place d)) (ons-there level (place + 1) ds e)

pub splits-there : (kind : Kind) (ds : List (Option Device)) → list_any is_none ds ≡ false →
    splits kind (length ds) ≡ is_split kind (filter_map (λ d. d) ds)
splits-there Kind.On ds e = refl
splits-there Kind.Off ds e = refl
splits-there Kind.List ds e = refl
splits-there Kind.Status ds e = refl
splits-there Kind.Reboot [] e = refl
splits-there Kind.Reboot (None ∷ ds) e = cc
splits-there Kind.Reboot (Some d ∷ []) e = refl
splits-there Kind.Reboot (Some d ∷ None ∷ ds) e = cc
splits-there Kind.Reboot (Some d ∷ Some f ∷ ds) e = le-leb 2 (length (Some d ∷ Some f ∷ ds)) (omega arith)

pub no_split : (kind : Kind) → is_split kind [] ≡ false
no_split Kind.On = refl
no_split Kind.Off = refl
no_split Kind.Reboot = refl
no_split Kind.List = refl
no_split Kind.Status = refl

-- a level with an unfit device
pub level-unfit : (target : List ℕ) (coin : ℕ) (kind : Kind) (index : ℕ) (ds : List (Option Device)) →
    list_any is_none ds ≡ true →
    unfit_level index ≡ fresh_level target coin (rank kind index ds)
level-unfit target coin kind index ds e = rw (e, no_split kind) refl

-- a level of devices that are all there and fit
pub level-fit : (target : List ℕ) (coin : ℕ) (kind : Kind) (index : ℕ) (ds : List (Option Device)) →
    list_any is_none ds ≡ false →
    fit_level target coin kind index ds ≡ fresh_level target coin (rank kind index ds)
level-fit target coin kind index ds e =
    rw (
      e,
      splits-there kind ds e,
      firsts-there (is_split kind (filter_map (λ d. d) ds)) kind index 0 ds e,
      ons-there index 0 ds e,
    ) refl
