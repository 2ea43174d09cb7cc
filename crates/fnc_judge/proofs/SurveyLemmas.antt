-- What is gathered of levels, as the definitions say it.
use Rattle.std.proofs.Common.{
  ℕ,
  List,
  [],
  ◌∷◌,
  ◌++◌,
  Bool,
  true,
  false,
  ◌≡◌,
  ◌||◌,
  ◌&&◌,
  not,
  max,
  leb,
  cond,
  refl,
  ap,
  ◌∙◌,
  arith,
  Option,
  Some,
  None,
}
use Rattle.std.specs.Prelude.{if◌then◌else◌, is_none, option_map, option_and_then}
use Rattle.std.specs.List.{list_any, list_all}
use Rattle.std.specs.Option.{option_or}
use Rattle.fnc_journal.specs.Missing.{has_any}
use Rattle.fnc_journal.specs.Slots.{Task, Rank, Operation, slots_of}
use Rattle.fnc_journal.specs.Acts.{Act, confirmed, concluded, spent}
use Rattle.fnc_journal.specs.Standing.{is_lost_by, lost, first_kept, standing_in, greatest_concluded}
use Rattle.fnc_journal.specs.Due.{is_done, passed_among}
use Rattle.fnc_judge.specs.Tours.{gathered_all, nothing}
use Rattle.fnc_judge.specs.Surveys.{Survey, Kept, kept_by, surveyed, surveyed_all}
use Rattle.fnc_judge.proofs.Gatherings.{
  gathered-unconfirmed,
  gathered-unconcluded,
  gathered-lost,
  gathered-greatest,
  all-find,
}
use Rattle.fnc_journal.proofs.Lawfulness.{and-left}

-- a level as the judge keeps it
abbrev pub kept_of : Operation → ℕ → List Act → Rank → Kept
kept_of o m acts l =
    kept_by o.over m l.index (gathered_all o m acts nothing l.firsts) (gathered_all o m acts nothing l.ons)

lost-same : (o : Operation) (m : ℕ) (acts : List Act) (l : Rank) →
    (l.unfit || (gathered_all o m acts nothing l.firsts).lost) ≡ lost o m acts l
lost-same o m acts l = ap (λ b. l.unfit || b) (gathered-lost o m acts nothing l.firsts)

option_or-next : (e : Option Kept) (b : Bool) (x : Rank) (f : Rank → Kept) (rest : Option Rank) →
    option_or (option_or e (cond b None (Some (f x)))) (option_map f rest)
    ≡ option_or e (option_map f (cond (not b) (Some x) rest))
option_or-next None true x f rest = refl
option_or-next None false x f rest = refl
option_or-next (Some y) b x f rest = refl

option_or-none : (e : Option Kept) → e ≡ option_or e None
option_or-none None = refl
option_or-none (Some y) = refl

pub survey-kept : (o : Operation) (m : ℕ) (acts : List Act) (s : Survey) (ls : List Rank) →
    (surveyed_all o m acts s ls).kept ≡ option_or s.kept (option_map (kept_of o m acts) (first_kept o m acts ls))
survey-kept o m acts s [] = option_or-none s.kept
survey-kept o m acts s (l ∷ ls) =
    survey-kept o m acts (surveyed o m acts s l) ls
    ∙ option_or-next s.kept (l.unfit || (gathered_all o m acts nothing l.firsts).lost) l (kept_of o m acts)
    (first_kept o m acts ls)
    ∙ ap (λ b. option_or s.kept (option_map (kept_of o m acts) (cond (not b) (Some l) (first_kept o m acts ls))))
    (lost-same o m acts l)

any-next : (b : Bool) (ls : List Rank) (l : Rank) → (true || has_any ls) ≡ (b || has_any (l ∷ ls))
any-next true ls l = refl
any-next false ls l = refl

or-false : (a : Bool) → a ≡ (a || false)
or-false true = refl
or-false false = refl

pub survey-any : (o : Operation) (m : ℕ) (acts : List Act) (s : Survey) (ls : List Rank) →
    (surveyed_all o m acts s ls).any ≡ (s.any || has_any ls)
survey-any o m acts s [] = or-false s.any
survey-any o m acts s (l ∷ ls) = survey-any o m acts (surveyed o m acts s l) ls ∙ any-next s.any ls l

append-grouped : (xs ys zs : List Task) → (xs ++ ys) ++ zs ≡ xs ++ (ys ++ zs)
append-grouped [] ys zs = refl
append-grouped (x ∷ xs) ys zs = ap (λ ts. x ∷ ts) (append-grouped xs ys zs)

pub survey-greatest : (o : Operation) (m : ℕ) (acts : List Act) (s : Survey) (ls : List Rank) →
    max s.greatest (greatest_concluded o m acts (slots_of ls)) ≡ max (surveyed_all o m acts s ls).greatest o.begin
survey-greatest o m acts s [] = refl
survey-greatest o m acts s (l ∷ ls) = here ∙ survey-greatest o m acts (surveyed o m acts s l) ls
  where
    rest : ℕ
    rest = greatest_concluded o m acts (slots_of ls)

    firsts : ℕ
    firsts = (gathered_all o m acts nothing l.firsts).greatest

    ons : ℕ
    ons = (gathered_all o m acts nothing l.ons).greatest

    joined : (a f n r b g : ℕ) → max 0 a ≡ max f b → max 0 b ≡ max n r → max g a ≡ max (max g (max f n)) r
    joined a f n r b g p q = omega (arith, p, q)

    grouped : greatest_concluded o m acts (l.firsts ++ l.ons ++ slots_of ls)
        ≡ greatest_concluded o m acts (l.firsts ++ (l.ons ++ slots_of ls))
    grouped = ap (greatest_concluded o m acts) (append-grouped l.firsts l.ons (slots_of ls))

    here : max s.greatest (greatest_concluded o m acts (l.firsts ++ l.ons ++ slots_of ls))
        ≡ max (max s.greatest (max firsts ons)) rest
    here =
        ap (max s.greatest) grouped
        ∙ joined (greatest_concluded o m acts (l.firsts ++ (l.ons ++ slots_of ls))) firsts ons rest
        (greatest_concluded o m acts (l.ons ++ slots_of ls)) s.greatest
        (gathered-greatest o m acts nothing l.firsts (l.ons ++ slots_of ls))
        (gathered-greatest o m acts nothing l.ons (slots_of ls))

pub standing-same : (o : Operation) (m : ℕ) (acts : List Act) (l : Rank) →
    (kept_of o m acts l).standing ≡ standing_in o m acts l
standing-same o m acts l =
    rw (gathered-unconfirmed o m acts nothing l.firsts, gathered-unconcluded o m acts nothing l.ons) refl

pub done-same : (o : Operation) (m : ℕ) (acts : List Act) (l : Rank) → (kept_of o m acts l).done ≡ is_done o m acts l
done-same o m acts l =
    rw (
      gathered-unconfirmed o m acts nothing l.firsts,
      gathered-unconcluded o m acts nothing l.ons,
      all-find (λ t. confirmed t o.over acts) l.firsts,
      all-find (λ t. concluded t o.over m acts) l.ons,
    ) refl

-- where all are confirmed none is lost
none-lost : (o : Operation) (m : ℕ) (acts : List Act) (ts : List Task) →
    list_all (λ t. confirmed t o.over acts) ts ≡ true → list_any (is_lost_by o m acts) ts ≡ false
none-lost o m acts [] e = refl
none-lost o m acts (t ∷ ts) e =
    go (confirmed t o.over acts) refl (spent t o.over m acts) e (λ k. none-lost o m acts ts k)
  where
    go : (b : Bool) → confirmed t o.over acts ≡ b → (c : Bool) →
        (b && list_all (λ t. confirmed t o.over acts) ts) ≡ true →
        (list_all (λ t. confirmed t o.over acts) ts ≡ true → list_any (is_lost_by o m acts) ts ≡ false) →
        ((c && not b) || list_any (is_lost_by o m acts) ts) ≡ false
    go true p true e ih = ih e
    go true p false e ih = ih e
    go false p c e ih = cc

-- the level that passes is the first that is not lost, where that is done
pub passed-same : (o : Operation) (m : ℕ) (acts : List Act) (ls : List Rank) →
    passed_among o m acts ls
    ≡ option_and_then (λ l. if is_done o m acts l then Some l else None) (first_kept o m acts ls)
passed-same o m acts [] = refl
passed-same o m acts (l ∷ ls) =
    go l.unfit refl (is_done o m acts l) refl (list_any (is_lost_by o m acts) l.firsts) refl (passed-same o m acts ls)
  where
    go : (a : Bool) → l.unfit ≡ a → (b : Bool) → is_done o m acts l ≡ b → (c : Bool) →
        list_any (is_lost_by o m acts) l.firsts ≡ c →
        passed_among o m acts ls
        ≡ option_and_then (λ l. if is_done o m acts l then Some l else None) (first_kept o m acts ls) →
        passed_among o m acts (l ∷ ls)
        ≡ option_and_then (λ l. if is_done o m acts l then Some l else None) (first_kept o m acts (l ∷ ls))
    go true p b q c r ih = rw p ih
    go false p true q true r ih =
        let all = and-left (list_all (λ t. confirmed t o.over acts) l.firsts)
        (list_all (λ t. concluded t o.over m acts) l.ons || leb o.over m) q in
        let none = none-lost o m acts l.firsts all in
        cc
    go false p true q false r ih = rw (p, q, r) (rw q refl)
    go false p false q true r ih = rw (p, q, r) ih
    go false p false q false r ih = rw (p, q, r) (rw q refl)

-- all are lost where none is kept
pub lost-all : (o : Operation) (m : ℕ) (acts : List Act) (ls : List Rank) →
    list_all (lost o m acts) ls ≡ is_none (first_kept o m acts ls)
lost-all o m acts ls = all-find (lost o m acts) ls
