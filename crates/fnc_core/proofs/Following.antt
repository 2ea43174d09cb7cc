-- An input that enters after an advance, and a request that is taken or not.
use Rattle.std.proofs.Common.{
  ℕ,
  [],
  ◌∷◌,
  ◌++◌,
  ◌≡◌,
  refl,
  ap,
  ap₂,
  sym,
  ◌∙◌,
  subst,
  Option,
  Some,
  None,
  Result,
  Ok,
  Err,
}
use Rattle.std.specs.Prelude.{option_map, unwrap_or, OnErr, IfErr}
use Rattle.fnc_journal.specs.declared.event.Event.{Event}
use Rattle.fnc_journal.specs.declared.entry.Req.{Req}
use Rattle.fnc_journal.specs.declared.plan.Plan.{Plan}
use Rattle.fnc_journal.specs.History.{History}
use Rattle.fnc_journal.specs.Found.{devices}
use Rattle.fnc_journal.specs.Served.{AreReplies}
use Rattle.fnc_journal.specs.Slots.{Operation}
use Rattle.fnc_core.specs.Between.{entry}
use Rattle.fnc_core.specs.declared.change.Ask.{Ask}
use Rattle.fnc_core.specs.declared.change.Change.{Change}
use Rattle.fnc_core.specs.declared.refusal.AskRefusal.{AskRefusal}
use Rattle.fnc_core.specs.Cored.{Cored, Sound, Advances, Enters, Follows, Asks, HasRoom, IsRefusal, IsAskRefusal}
use Rattle.fnc_core.specs.Cored.{ask_event, ask_need, event_of, lead_in, next_of}

-- after an advance, where there is room, an input enters with its replies
pub follows-enters : (old advanced new : Cored) (m : ℕ) (event : Event) (need : ℕ) → Advances old advanced m →
    HasRoom advanced need → Follows advanced new event → Enters old new m event need
follows-enters old advanced new m event need a r f = record {
  advanced = advanced;
  advances = a;
  has_room = r;
  follows = f;
}

-- at the last moment nothing advances
pub advances-none : (v : Cored) (m : ℕ) → v.last ≡ m → Sound v → Advances v v m
advances-none v m e s = record {
  advance = [];
  at_once = tt;
  still = λ k. refl;
  history = refl;
  last = e;
  limit = refl;
  sound = s;
}

-- a request that was taken after an advance
pub follows-asks : (old mid new : Cored) (m : ℕ) (k : Ask) (p : Plan) → Advances old mid m →
    HasRoom mid (ask_need mid k p) →
    Follows mid new (ask_event (next_of mid) (lead_in mid.history mid.last k (next_of mid)) k p) →
    Asks old new m k p (next_of mid)
follows-asks old mid new m k p a r f = record {
  lead = lead_in mid.history mid.last k (next_of mid);
  need = ask_need mid k p;
  enters = record { advanced = mid; advances = a; has_room = r; follows = f };
  leads = ap (λ n. lead_in mid.history n k (next_of mid)) a.last;
  needs = refl;
}

-- an input that entered: its replies, the journal, the last moment and the limit after it
module _ {old new : Cored} {m : ℕ} {event : Event} {need : ℕ} (e : Enters old new m event need) where
  pub entered-answered : AreReplies m e.follows.replies
  entered-answered = subst (λ n. AreReplies n e.follows.replies) e.advances.last e.follows.answered

  pub entered-history : new.history ≡ e.follows.replies ++ entry m event ∷ (e.advances.advance ++ old.history)
  entered-history =
      e.follows.history ∙ ap₂ (λ n h. e.follows.replies ++ entry n event ∷ h) e.advances.last e.advances.history

  pub entered-last : new.last ≡ m
  entered-last = e.follows.last ∙ e.advances.last

  pub entered-limit : new.limit ≡ old.limit
  entered-limit = e.follows.limit ∙ e.advances.limit

-- a device's number is all that a change takes from the journal
pub same-event : (g h : History) (change : Change) → devices g ≡ devices h → event_of g change ≡ event_of h change
same-event g h (Change.Device registration) e =
    ap (λ n. Event.Device (record { reg = record { 0 = n }; registration = registration })) e
same-event g h (Change.Gone reg) e = refl
same-event g h (Change.Level set) e = refl
same-event g h (Change.LevelGone cleared) e = refl
same-event g h (Change.Agent described) e = refl
same-event g h (Change.Confirm word) e = refl

-- what joins nothing, and what joins an operation
pub none-joined : (x : Option Operation) → ◌≡◌ {A = Option ℕ} None (option_map (λ (o : Operation). o.req) x) → x ≡ None
none-joined None e = refl
none-joined (Some o) e = cc

pub lead-joined : (x : Option Operation) (lead : Req) (n : ℕ) → option_map (λ (o : Operation). o.req) x ≡ Some lead.0 →
    lead ≡ record { 0 = unwrap_or (option_map (λ (o : Operation). o.req) x) n }
lead-joined x lead n e = ap (λ (y : Option ℕ). record { 0 = unwrap_or y n }) (sym e)

-- a request that was not taken left everything as it was
pub refused-by : (x : Result (Unit {0}) AskRefusal) (old new : Cored) (need : ℕ) (k : Ask) (p : Plan) →
    ask_need old k p ≡ need → IfErr x (IsRefusal new need) → OnErr x (new ≡ old) → IfErr x (IsAskRefusal new k p)
refused-by (Ok u) old new need k p e r s = r
refused-by (Err refusal) old new need k p e r s =
    subst (λ (v : Cored). IsRefusal new (ask_need v k p) refusal) (sym s)
    (subst (λ n. IsRefusal new n refusal) (sym e) r)
