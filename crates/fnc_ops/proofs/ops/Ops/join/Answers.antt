-- The records stand for the journal with the request.
use Rattle.std.proofs.Common.{List, true, ◌∷◌, ◌∙◌, ◌≡◌, ℕ, Ok, Err, OnOk, OnErr, Result, sym, ap, subst}
use Rattle.std.proofs.lemmas.Result.{IfOk-weaker}
use Rattle.fnc_journal.specs.declared.entry.Req.{Req}
use Rattle.fnc_journal.specs.declared.outcome.NoMemory.{NoMemory}
use Rattle.fnc_journal.specs.declared.event.Request.{Request}
use Rattle.fnc_journal.specs.Found.{asks}
use Rattle.fnc_journal.specs.History.{History}
use Rattle.fnc_journal.specs.Lawful.{Lawful}
use Rattle.fnc_journal.specs.Operations.{is_open}
use Rattle.fnc_ops.specs.Kept.{Kept}
use Rattle.fnc_records.specs.KeptOperation.{KeptOperation}
use Rattle.fnc_ops.specs.OpsRecords.{joined, waiting, AllWait}
use Rattle.fnc_ops.specs.Stands.{StandsFor, StandEach, AreAt, ask_entry}
use Rattle.fnc_ops.proofs.StandsJoined.{stands-joined, waiting-joined, at-joined}
use Rattle.fnc_ops.proofs.ops.Ops.join.Goals as goal

-- what is waited for is the same with the request and without memory for it
waits-as : (p : ℕ) (req : Req) (v w : Kept) (r : Result (Unit {0}) NoMemory) →
    OnOk r (w ≡ record v { operations = joined p req v.operations }) → OnErr r (w ≡ v) → AllWait v w
waits-as p req v w (Ok x) ok err n = ap (λ (k : Kept). waiting n k.operations) ok ∙ waiting-joined p req n v.operations
waits-as p req v w (Err e) ok err n = ap (λ (k : Kept). waiting n k.operations) err

-- so are the moments at which the records speak
at-as : (p : ℕ) (req : Req) (m : ℕ) (v w : Kept) (r : Result (Unit {0}) NoMemory) →
    OnOk r (w ≡ record v { operations = joined p req v.operations }) → OnErr r (w ≡ v) →
    AreAt m v.operations → AreAt m w.operations
at-as p req m v w (Ok x) ok err a = subst (λ (k : Kept). AreAt m k.operations) (sym ok)
    (at-joined p req m v.operations a)
at-as p req m v w (Err e) ok err a = subst (λ (k : Kept). AreAt m k.operations) (sym err) a

-- the request as its numbers say
joined-as : (h : History) → Lawful h → (m : ℕ) (p n : Req) (q : Request) → q.req ≡ n → q.lead ≡ p → n.0 ≡ asks h →
    is_open p.0 h ≡ true →
    (rs : List KeptOperation) → StandEach rs h → StandEach (joined p.0 n rs) (ask_entry m q ∷ h)
joined-as h l m p n q own lead next opened rs each =
    subst (λ (k : Req). StandEach (joined k.0 n rs) (ask_entry m q ∷ h)) lead
    (subst (λ (k : Req). StandEach (joined q.lead.0 k rs) (ask_entry m q ∷ h)) own
    (stands-joined h l m q (ap (λ (k : Req). k.0) own ∙ next) (ap (λ (k : Req). is_open k.0 h) lead ∙ opened) rs each))

pub returns-clause-ok : goal.returns-clause-ok
returns-clause-ok c h moment q own lead lawful stands next opened =
    IfOk-weaker c.kept_joined.result _ _
    (λ x e.
    subst (λ (v : Kept). StandsFor v (ask_entry moment q ∷ h)) (sym e)
    (record {
      each = joined-as h lawful moment c.args.operation c.args.req q own lead next opened c.args.self.now.operations
          stands.each;
      alive = stands.alive;
    }))
    c.kept_joined.ensures.ok

pub returns-clause-at : goal.returns-clause-at
returns-clause-at c m at = at-as c.args.operation.0 c.args.req m c.args.self.now c.kept_joined.new.self
    c.kept_joined.result c.kept_joined.ensures.ok c.kept_joined.ensures.err at

pub returns-clause-waits : goal.returns-clause-waits
returns-clause-waits c = waits-as c.args.operation.0 c.args.req c.args.self.now c.kept_joined.new.self
    c.kept_joined.result c.kept_joined.ensures.ok c.kept_joined.ensures.err
