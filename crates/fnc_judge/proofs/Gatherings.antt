-- What is gathered of slots, as the definitions say it.
use Rattle.std.proofs.Common.{
  ℕ,
  List,
  [],
  ◌∷◌,
  ◌++◌,
  Bool,
  true,
  false,
  ◌≡◌,
  ◌||◌,
  ◌&&◌,
  not,
  max,
  cond,
  refl,
  ap,
  ◌∙◌,
  arith,
  Option,
  Some,
  None,
}
use Rattle.std.specs.Prelude.{find, is_none}
use Rattle.std.specs.List.{list_any, list_all}
use Rattle.std.specs.Option.{option_or}
use Rattle.fnc_journal.specs.Slots.{Task, Operation}
use Rattle.fnc_journal.specs.Acts.{Act, confirmed, concluded, spent, concluded_at}
use Rattle.fnc_journal.specs.Standing.{is_lost_by, greatest_concluded}
use Rattle.fnc_search.specs.Seen.{seen_of, confirmed_by, concluded_by, spent_by}
use Rattle.fnc_judge.specs.Tours.{Gathered, gathered, gathered_all}
use Rattle.fnc_search.proofs.Looks.{confirmed_same, concluded_same}

option_or-next : {X : Type 0} (e : Option X) (b : Bool) (x : X) (rest : Option X) →
    option_or (option_or e (cond b None (Some x))) rest ≡ option_or e (cond (not b) (Some x) rest)
option_or-next None true x rest = refl
option_or-next None false x rest = refl
option_or-next (Some y) b x rest = refl

option_or-none : {X : Type 0} (e : Option X) → e ≡ option_or e None
option_or-none None = refl
option_or-none (Some y) = refl

pub gathered-unconfirmed : (o : Operation) (m : ℕ) (acts : List Act) (g : Gathered) (ts : List Task) →
    (gathered_all o m acts g ts).unconfirmed ≡ option_or g.unconfirmed (find (λ t. not (confirmed t o.over acts)) ts)
gathered-unconfirmed o m acts g [] = option_or-none g.unconfirmed
gathered-unconfirmed o m acts g (t ∷ ts) =
    gathered-unconfirmed o m acts (gathered o m acts g t) ts
    ∙ option_or-next g.unconfirmed (confirmed_by t (seen_of t o.over acts)) t
    (find (λ t. not (confirmed t o.over acts)) ts)
    ∙ ap (λ b. option_or g.unconfirmed (cond (not b) (Some t) (find (λ t. not (confirmed t o.over acts)) ts)))
    (confirmed_same t o.over acts)

pub gathered-unconcluded : (o : Operation) (m : ℕ) (acts : List Act) (g : Gathered) (ts : List Task) →
    (gathered_all o m acts g ts).unconcluded ≡ option_or g.unconcluded (find (λ t. not (concluded t o.over m acts)) ts)
gathered-unconcluded o m acts g [] = option_or-none g.unconcluded
gathered-unconcluded o m acts g (t ∷ ts) =
    gathered-unconcluded o m acts (gathered o m acts g t) ts
    ∙ option_or-next g.unconcluded (concluded_by t m (seen_of t o.over acts)) t
    (find (λ t. not (concluded t o.over m acts)) ts)
    ∙ ap (λ b. option_or g.unconcluded (cond (not b) (Some t) (find (λ t. not (concluded t o.over m acts)) ts)))
    (concluded_same t o.over m acts)

or-next : (a b c : Bool) → ((a || b) || c) ≡ (a || (b || c))
or-next true b c = refl
or-next false b c = refl

or-false : (a : Bool) → a ≡ (a || false)
or-false true = refl
or-false false = refl

pub gathered-lost : (o : Operation) (m : ℕ) (acts : List Act) (g : Gathered) (ts : List Task) →
    (gathered_all o m acts g ts).lost ≡ (g.lost || list_any (is_lost_by o m acts) ts)
gathered-lost o m acts g [] = or-false g.lost
gathered-lost o m acts g (t ∷ ts) =
    gathered-lost o m acts (gathered o m acts g t) ts
    ∙ or-next g.lost (spent_by t m (seen_of t o.over acts) && not (confirmed_by t (seen_of t o.over acts)))
    (list_any (is_lost_by o m acts) ts)
    ∙ ap (λ b. g.lost || ((spent t o.over m acts && not b) || list_any (is_lost_by o m acts) ts))
    (confirmed_same t o.over acts)

pub gathered-greatest : (o : Operation) (m : ℕ) (acts : List Act) (g : Gathered) (ts us : List Task) →
    max g.greatest (greatest_concluded o m acts (ts ++ us))
    ≡ max (gathered_all o m acts g ts).greatest (greatest_concluded o m acts us)
gathered-greatest o m acts g [] us = refl
gathered-greatest o m acts g (t ∷ ts) us =
    go (concluded t o.over m acts) (concluded_by t m (seen_of t o.over acts)) (concluded_same t o.over m acts)
    ∙ gathered-greatest o m acts (gathered o m acts g t) ts us
  where
    at : ℕ
    at = concluded_at t o.begin o.over acts

    rest : ℕ
    rest = greatest_concluded o m acts (ts ++ us)

    go : (b c : Bool) → c ≡ b →
        max g.greatest (cond b (max at rest) rest) ≡ max (cond c (max g.greatest at) g.greatest) rest
    go true true e = omega arith
    go true false e = cc
    go false true e = cc
    go false false e = refl

-- all pass where none is found that does not
pub all-find : {X : Type 0} (p : X → Bool) (xs : List X) → list_all p xs ≡ is_none (find (λ x. not (p x)) xs)
all-find p [] = refl
all-find p (x ∷ xs) = go (p x) (all-find p xs)
  where
    go : (b : Bool) → list_all p xs ≡ is_none (find (λ x. not (p x)) xs) →
        (b && list_all p xs) ≡ is_none (cond (not b) (Some x) (find (λ x. not (p x)) xs))
    go true e = e
    go false e = refl
