-- A request enters with the plan of the journal at its moment, or is denied for want of room.
use Rattle.std.proofs.Common.{
  ℕ,
  List,
  ◌≡◌,
  ◌≤◌,
  ◌<◌,
  ◌+◌,
  ◌*◌,
  Bool,
  true,
  false,
  cond,
  refl,
  ap,
  sym,
  ◌∙◌,
  subst,
  inl,
  inr,
  Option,
  Some,
  None,
  Result,
  Ok,
  Err,
  length,
  arith,
  nat_le,
  le-leb,
  leb-true,
}
use Rattle.std.specs.Prelude.{IfErr}
use Rattle.std.specs.Result.{IsErrAnd}
use Rattle.fnc_journal.specs.declared.cause.Cause.{Cause}
use Rattle.fnc_journal.specs.declared.entry.Kind.{Kind}
use Rattle.fnc_journal.specs.declared.entry.Req.{Req}
use Rattle.fnc_journal.specs.declared.event.Event.{Event}
use Rattle.fnc_journal.specs.declared.plan.Plan.{Plan}
use Rattle.fnc_journal.specs.Found.{asks}
use Rattle.fnc_journal.specs.History.{History}
use Rattle.fnc_journal.specs.Operations.{joined}
use Rattle.fnc_journal.specs.Owed.{owed}
use Rattle.fnc_journal.specs.Slots.{Operation}
use Rattle.fnc_config.specs.Plans.{IsPlanOf}
use Rattle.fnc_core.specs.Between.{tries_with}
use Rattle.fnc_core.specs.Cored.{Asks, Cored, HasRoom, IsAskRefusal, ask_event, ask_need, lead_in, next_of, wanted_by}
use Rattle.fnc_core.specs.declared.change.Ask.{Ask}
use Rattle.fnc_core.specs.declared.refusal.AskRefusal.{AskRefusal}
use Rattle.fnc_desk.specs.Called.{AsksFor, Called, ask_called, plan_of}
use Rattle.fnc_desk.specs.Causes.{ask_cause}
use Rattle.fnc_desk.specs.Obeyed.{Denies, Obeys}
use Rattle.fnc_desk.specs.declared.denial.Denial.{Denial}
use Rattle.fnc_desk.proofs.Taking.{unmoved}

-- a plan, in other words
pub planned-as : (h g : History) (text target : List ℕ) (kind : Kind) (m n : ℕ) (p : Plan) → h ≡ g → text ≡ target →
    m ≡ n → IsPlanOf h text kind m p → IsPlanOf g target kind n p
planned-as h g text target kind m n p journal name moment x =
    subst (λ (k : History). IsPlanOf k target kind n p) journal
    (subst (λ (t : List ℕ). IsPlanOf h t kind n p) name (subst (λ k. IsPlanOf h text kind k p) moment x))

abbrev okay : Event → Called
okay event = Ok event

abbrev refusing : Cause → Called
refusing cause = Err cause

abbrev numbered : ℕ → Req
numbered n = record { 0 = n }

module _ (v : Cored) (a : Ask) (p : Plan) where
  -- there is room for it
  abbrev asked : Called
  asked = okay (ask_event (next_of v) (lead_in v.history v.last a (next_of v)) a p)

  abbrev wanted : ℕ
  wanted = length v.history + owed v.history + ask_need v a p

  -- what it needs is never nothing
  needs-some : (o : Option Operation) → 1 ≤ wanted_by v v.last a p o
  needs-some None =
      let some : 1 ≤ 2 + 2 * tries_with v.history v.last (next_of v) a p = omega arith in
      some
  needs-some (Some o) = omega arith

  pub obeys-asked : (new : Cored) (req : Req) → IsPlanOf v.history a.target a.kind v.last p →
      req.0 ≡ asks v.history → Asks v new v.last a p req → Obeys (AsksFor v a) v new
  obeys-asked new req planned number k = record {
    event = ask_event req k.lead a p;
    need = k.need;
    called = record { scope = p.scope; is_scope = planned.0; called_is = called };
    enters = k.enters;
    needs = λ q. subst (λ n. 1 ≤ n) (sym need-is) (needs-some (joined v.history v.last a.kind a.target));
  }
    where
      same : k.enters.advanced ≡ v
      same = unmoved v k.enters.advanced k.enters.advances

      lead-is : k.lead ≡ lead_in v.history v.last a req
      lead-is = subst (λ (u : Cored). k.lead ≡ lead_in u.history v.last a req) same k.leads

      need-is : k.need ≡ ask_need v a p
      need-is = subst (λ (u : Cored). k.need ≡ ask_need u a p) same k.needs

      room : wanted ≤ v.limit
      room =
          subst (λ n. length v.history + owed v.history + n ≤ v.limit) need-is
          (subst (λ (u : Cored). HasRoom u k.need) same k.enters.has_room)

      req-is : req ≡ next_of v
      req-is = ap numbered number

      called : okay (ask_event req k.lead a p) ≡ ask_called v a (plan_of v a p.scope)
      called =
          ap (λ (l : Req). okay (ask_event req l a p)) lead-is
          ∙ ap (λ (r : Req). okay (ask_event r (lead_in v.history v.last a r) a p)) req-is
          ∙ sym (ap (λ b. cond b asked (refusing Cause.Full)) (le-leb wanted v.limit room))
          ∙ ap (ask_called v a) planned.1

  -- there is none
  full-called : IsPlanOf v.history a.target a.kind v.last p → v.limit < wanted →
      AsksFor v a (refusing Cause.Full)
  full-called planned above = record { scope = p.scope; is_scope = planned.0; called_is = called }
    where
      none : (b : Bool) → nat_le wanted v.limit ≡ b → b ≡ false
      none true q = let room : wanted ≤ v.limit = leb-true wanted v.limit q in absurd (omega (arith, room, above))
      none false q = refl

      called : refusing Cause.Full ≡ ask_called v a (plan_of v a p.scope)
      called =
          sym (ap (λ b. cond b asked (refusing Cause.Full)) (none (nat_le wanted v.limit) refl))
          ∙ ap (ask_called v a) planned.1

  pub denies-asked : (new : Cored) (refusal : AskRefusal) (r : Result (Unit {0}) Denial) →
      IsPlanOf v.history a.target a.kind v.last p → new ≡ v → IsAskRefusal new a p refusal →
      IsErrAnd r (λ d. d.cause ≡ ask_cause refusal) → IfErr r (Denies (AsksFor v a) v new)
  denies-asked new refusal (Ok u) planned same is cause = tt
  denies-asked new AskRefusal.NoMemory (Err denial) planned same is cause = (same, inl cause)
  denies-asked new (AskRefusal.Full full) (Err denial) planned same is cause =
      let above = subst (λ (u : Cored). IsAskRefusal u a p (AskRefusal.Full full)) same is in
      (same, inr (subst (λ k. AsksFor v a (refusing k)) (sym cause) (full-called planned above.above)))
