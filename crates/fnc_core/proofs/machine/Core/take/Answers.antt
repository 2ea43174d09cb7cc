-- The request joins what it can join, or begins its own operation.
use Rattle.std.proofs.Common.{◌≡◌, ◌∙◌, sym, ap, subst, refl, Option, Some, None, List, ℕ}
use Rattle.std.specs.Prelude.{option_map, OnOk}
use Rattle.fnc_journal.specs.declared.entry.Req.{Req}
use Rattle.fnc_journal.specs.Slots.{Operation}
use Rattle.fnc_journal.specs.Operations.{joined}
use Rattle.fnc_core.specs.Between.{need_of}
use Rattle.fnc_core.specs.Cored.{Follows, ask_event, wanted_by, next_of}
use Rattle.fnc_core.proofs.Following.{none-joined, lead-joined, refused-by}
use Rattle.fnc_core.proofs.machine.Core.take.Goals as goal

pub begin-requires-clause-leads : goal.begin-requires-clause-leads
begin-requires-clause-leads c =
    none-joined _
    (sym (ap (option_map (λ (r : Req). r.0)) c.in-None.is) ∙ c.joinable.ensures
    ∙ ap (λ (t : List ℕ). option_map (λ (o : Operation). o.req)
    (joined c.args.self.now.history c.args.self.now.last c.args.ask.kind t)) c.as_str.ensures)

pub returns-in-Some-clause-ok : goal.returns-in-Some-clause-ok
returns-in-Some-clause-ok c =
    let some : option_map (λ (o : Operation). o.req)
    (joined c.args.self.now.history c.args.self.now.last c.args.ask.kind c.args.ask.target) ≡ Some
    c.in-Some.lead.0 =
    sym (c.joinable.ensures ∙ ap (λ (t : List ℕ). option_map (λ (o : Operation). o.req)
    (joined c.args.self.now.history c.args.self.now.last c.args.ask.kind t)) c.as_str.ensures)
    ∙ ap (option_map (λ (r : Req). r.0)) c.in-Some.is in
    subst (λ (l : Req). OnOk c.join.result (Follows c.args.self.now c.join.new.self
    (ask_event (next_of c.args.self.now) l c.args.ask c.args.plan)))
    (lead-joined _ c.in-Some.lead (next_of c.args.self.now).0 some) c.join.ensures.ok

pub returns-in-Some-clause-refusal : goal.returns-in-Some-clause-refusal
returns-in-Some-clause-refusal c =
    let some : option_map (λ (o : Operation). o.req)
    (joined c.args.self.now.history c.args.self.now.last c.args.ask.kind c.args.ask.target) ≡ Some
    c.in-Some.lead.0 =
    sym (c.joinable.ensures ∙ ap (λ (t : List ℕ). option_map (λ (o : Operation). o.req)
    (joined c.args.self.now.history c.args.self.now.last c.args.ask.kind t)) c.as_str.ensures)
    ∙ ap (option_map (λ (r : Req). r.0)) c.in-Some.is in
    refused-by c.join.result c.args.self.now c.join.new.self 2 c.args.ask c.args.plan
    (go (joined c.args.self.now.history c.args.self.now.last c.args.ask.kind c.args.ask.target) some)
    c.join.ensures.refusal c.join.ensures.err
  where
    go : (x : Option Operation) → option_map (λ (o : Operation). o.req) x ≡ Some c.in-Some.lead.0 →
        wanted_by c.args.self.now c.args.self.now.last c.args.ask c.args.plan x ≡ 2
    go None e = cc
    go (Some o) e = refl

pub returns-in-None-clause-refusal : goal.returns-in-None-clause-refusal
returns-in-None-clause-refusal c =
    let none : joined c.args.self.now.history c.args.self.now.last c.args.ask.kind c.args.ask.target ≡ None =
    none-joined _
    (sym (ap (option_map (λ (r : Req). r.0)) c.in-None.is) ∙ c.joinable.ensures
    ∙ ap (λ (t : List ℕ). option_map (λ (o : Operation). o.req)
    (joined c.args.self.now.history c.args.self.now.last c.args.ask.kind t)) c.as_str.ensures) in
    refused-by c.begin.result c.args.self.now c.begin.new.self
    (need_of c.args.self.now.history c.args.self.now.last (next_of c.args.self.now) c.args.ask c.args.plan)
    c.args.ask c.args.plan
    (ap (wanted_by c.args.self.now c.args.self.now.last c.args.ask c.args.plan) none) c.begin.ensures.refusal
    c.begin.ensures.err
