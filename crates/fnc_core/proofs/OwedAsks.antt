-- What is owed after a request: a reply to it, and where it begins an operation a start and an exit for each try.
use Rattle.std.proofs.Common.{
  ℕ,
  List,
  [],
  ◌∷◌,
  ◌++◌,
  Bool,
  true,
  false,
  ◌≡◌,
  ◌≤◌,
  ◌<◌,
  ◌+◌,
  ◌-◌,
  ◌*◌,
  ◌==◌,
  refl,
  ap,
  ap₂,
  sym,
  ◌∙◌,
  subst,
  Option,
  Some,
  None,
  arith,
  length,
  eqb-true,
  ne_eqb,
}
use Rattle.std.specs.Prelude.{option_map}
use Rattle.std.specs.List.{AllByRecursion}
use Rattle.fnc_journal.specs.declared.event.Request.{Request}
use Rattle.fnc_journal.specs.declared.entry.Kind.{Kind}
use Rattle.fnc_journal.specs.declared.plan.Plan.{Plan}
use Rattle.fnc_journal.specs.History.{History}
use Rattle.fnc_journal.specs.Found.{asks}
use Rattle.fnc_journal.specs.Plan as Planned
use Rattle.fnc_journal.specs.Slots.{Operation, all_slots}
use Rattle.fnc_journal.specs.Acts.{acts, begun}
use Rattle.fnc_journal.specs.Lawful.{Lawful}
use Rattle.fnc_journal.specs.Operations.{open_operations, unanswered, is_open, joined, is_joinable}
use Rattle.fnc_journal.specs.Owed.{tries_of, owed_by, owed_by_all, owed}
use Rattle.fnc_journal.specs.Startable.{alive_runs}
use Rattle.fnc_journal.proofs.Asking.{unanswered-new, unanswered-other}
use Rattle.fnc_journal.proofs.Each.{each-map, found-each}
use Rattle.fnc_journal.proofs.Fresh.{open-small, unasked_idle}
use Rattle.fnc_ops.specs.declared.ops.Operation.{Operation as Begun}
use Rattle.fnc_ops.specs.FreshRecords.{begun_by, wanted_by}
use Rattle.fnc_ops.specs.Stands.{AreBounded, ask_entry, begun_request}
use Rattle.fnc_ops.proofs.Apart.{AreApart}
use Rattle.fnc_ops.proofs.OpenOperations.{number_of, open-apart, each-open}
use Rattle.fnc_ops.proofs.StandsBegins.{opened}
use Rattle.fnc_ops.proofs.StandsJoined as Joined

-- what can be joined is open
pub joined-open : (h : History) (m : ℕ) (kind : Kind) (target : List ℕ) (lead : ℕ) →
    option_map (λ (o : Operation). o.req) (joined h m kind target) ≡ Some lead → is_open lead h ≡ true
joined-open h m kind target lead e = go (joined h m kind target) refl e
  where
    some : (a b : ℕ) → ◌≡◌ {A = Option ℕ} (Some a) (Some b) → a ≡ b
    some a b f = cc

    go : (x : Option Operation) → joined h m kind target ≡ x → option_map (λ (o : Operation). o.req) x ≡ Some lead →
        is_open lead h ≡ true
    go None j f = cc
    go (Some o) j f =
        ap (λ n. is_open n h) (sym (some o.req lead f))
        ∙ found-each (λ (p : Operation). is_open p.req h ≡ true) (is_joinable h m kind target) (open_operations h) o
        (each-open h) j

-- what some operations owe is the same where each owes the same
owes-same : (g h : History) (os : List Operation) → AllByRecursion (λ (o : Operation). owed_by g o ≡ owed_by h o) os →
    owed_by_all g os ≡ owed_by_all h os
owes-same g h [] a = refl
owes-same g h (o ∷ os) a = ap₂ ◌+◌ a.0 (owes-same g h os a.1)

owes-append : (g : History) (os : List Operation) (o : Operation) →
    owed_by_all g (os ++ o ∷ []) ≡ owed_by_all g os + owed_by g o
owes-append g [] o = omega arith
owes-append g (p ∷ os) o = let ih : owed_by_all g (os ++ o ∷ []) ≡ owed_by_all g os + owed_by g o =
    owes-append g os o in omega (arith, ih)

length-more : (xs : List ℕ) (x : ℕ) → length (xs ++ x ∷ []) ≡ length xs + 1
length-more [] x = refl
length-more (y ∷ ys) x = let ih : length (ys ++ x ∷ []) ≡ length ys + 1 = length-more ys x in omega (arith, ih)

-- a request that joins an operation owes a reply
module _ (h : History) (l : Lawful h) (m : ℕ) (q : Request) (next : q.req.0 ≡ asks h)
    (open_lead : is_open q.lead.0 h ≡ true) where
  abbrev after : History
  after = ask_entry m q ∷ h

  lead-owes : (o : Operation) → (o.req == q.lead.0) ≡ true → owed_by after o ≡ owed_by h o + 1
  lead-owes o e =
      let waits : unanswered o.req after ≡ unanswered o.req h ++ q.req.0 ∷ [] =
      subst (λ n. unanswered n after ≡ unanswered n h ++ q.req.0 ∷ []) (sym (eqb-true o.req q.lead.0 e))
      (Joined.unanswered-lead h l m q next open_lead) in
      let more : length (unanswered o.req after) ≡ length (unanswered o.req h) + 1 = ap length waits
      ∙ length-more (unanswered o.req h) q.req.0 in
      omega (arith, more)

  other-owes : (o : Operation) → (o.req == q.lead.0) ≡ false → owed_by after o ≡ owed_by h o
  other-owes o e = ap (λ ws. length ws + 2 * (tries_of (all_slots o) - begun (acts o.req h)))
      (Joined.unanswered-other h l m q next open_lead o.req e)

  all-owe : (os : List Operation) → AreApart number_of os → owed_by_all after os ≤ owed_by_all h os + 1
  all-owe [] d = omega arith
  all-owe (o ∷ os) d = go (o.req == q.lead.0) refl (all-owe os d.1)
    where
      others : o.req ≡ q.lead.0 → (ps : List Operation) →
          AllByRecursion (λ (p : Operation). (p.req == o.req) ≡ false) ps →
          AllByRecursion (λ (p : Operation). owed_by after p ≡ owed_by h p) ps
      others e [] a = tt
      others e (p ∷ ps) a = (other-owes p (subst (λ n. (p.req == n) ≡ false) e a.0), others e ps a.1)

      go : (b : Bool) → (o.req == q.lead.0) ≡ b → owed_by_all after os ≤ owed_by_all h os + 1 →
          owed_by_all after (o ∷ os) ≤ owed_by_all h (o ∷ os) + 1
      go true e ih =
          let here : owed_by after o ≡ owed_by h o + 1 = lead-owes o e in
          let rest : owed_by_all after os ≡ owed_by_all h os =
          owes-same after h os (others (eqb-true o.req q.lead.0 e) os d.0) in
          omega (arith, here, rest)
      go false e ih = let here : owed_by after o ≡ owed_by h o = other-owes o e in omega (arith, here, ih)

  pub owed-joined : owed after ≤ owed h + 1
  owed-joined =
      let all : owed_by_all after (open_operations h) ≤ owed_by_all h (open_operations h) + 1 =
      all-owe (open_operations h) (open-apart h l) in
      let same : owed_by_all after (open_operations after) ≡ owed_by_all after (open_operations h) =
      ap (owed_by_all after) (Joined.open-joined h l m q next open_lead) in
      let now : length (alive_runs after) + owed_by_all after (open_operations after) ≤ length
      (alive_runs h) + owed_by_all h (open_operations h) + 1 = omega (arith, all, same) in
      now

-- a request that begins an operation owes a reply, and a start and an exit for each of its tries
module _ (r : Begun) (p : Plan) (h : History) (client : List ℕ) (lawful : Lawful h) (number : r.req.0 ≡ asks h)
    (planned : p ≡ Planned.plan (wanted_by r p.scope) h) (bounded : AreBounded h) where
  abbrev after_begun : History
  after_begun = ask_entry r.moment (begun_request r client p.scope) ∷ h

  -- the tries of all its slots
  abbrev pub tries_begun : ℕ
  tries_begun = tries_of (all_slots (begun_by r p h))

  begun-owes : owed_by after_begun (begun_by r p h) ≡ 1 + 2 * tries_begun
  begun-owes =
      let waits : unanswered r.req.0 after_begun ≡ r.req.0 ∷ [] =
      unanswered-new h lawful r.moment (begun_request r client p.scope) number in
      let idle : acts r.req.0 h ≡ [] = unasked_idle h lawful r.req.0 (omega (arith, number)) in
      let one : length (unanswered r.req.0 after_begun) ≡ 1 = ap length waits in
      let none : begun (acts r.req.0 h) ≡ 0 = ap begun idle in
      let now : length (unanswered r.req.0 after_begun) + 2 *
      (tries_begun - begun (acts r.req.0 h)) ≡ 1 + 2 * tries_begun = omega (arith, one, none) in
      now

  earlier-owe : AllByRecursion (λ (o : Operation). owed_by after_begun o ≡ owed_by h o) (open_operations h)
  earlier-owe = each-map _ _ (open_operations h) same (open-small h lawful)
    where
      same : (o : Operation) → o.req < asks h → owed_by after_begun o ≡ owed_by h o
      same o k =
          ap (λ ws. length ws + 2 * (tries_of (all_slots o) - begun (acts o.req h)))
          (unanswered-other h r.moment (begun_request r client p.scope) o.req
          (ne_eqb o.req r.req.0 (λ e. omega (arith, e, k, number))))

  pub owed-begun : owed after_begun ≡ owed h + 1 + 2 * tries_begun
  owed-begun =
      let opened_now : owed_by_all after_begun (open_operations after_begun) ≡ owed_by_all after_begun
      (open_operations h ++ begun_by r p h ∷ []) =
      ap (owed_by_all after_begun) (opened r p h client lawful number planned bounded) in
      let one_more : owed_by_all after_begun (open_operations h ++ begun_by r p h ∷ []) ≡ owed_by_all after_begun
      (open_operations h) + owed_by after_begun (begun_by r p h) =
      owes-append after_begun (open_operations h) (begun_by r p h) in
      let earlier : owed_by_all after_begun (open_operations h) ≡ owed_by_all h (open_operations h) =
      owes-same after_begun h (open_operations h) earlier-owe in
      let own : owed_by after_begun (begun_by r p h) ≡ 1 + 2 * tries_begun = begun-owes in
      let now : length (alive_runs after_begun) + owed_by_all after_begun (open_operations after_begun) ≡ length
      (alive_runs h) + owed_by_all h (open_operations h) + 1 + 2 * tries_begun =
      omega (arith, opened_now, one_more, earlier, own) in
      now
