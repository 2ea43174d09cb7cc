-- The entry that last describes an agent is the one whose description counts.
use Rattle.std.proofs.Common.{ℕ, List, [], ◌∷◌, Bool, true, false, ◌≡◌, ◌<◌, ◌==◌, cond, refl, sym, ◌∙◌, subst, Some, None, length, arith, eq-eqb, ne_eqb}
use Rattle.std.specs.Prelude.{bytes_eq}
use Rattle.fnc_journal.specs.declared.entry.Entry.{Entry}
use Rattle.fnc_journal.specs.declared.event.Event.{Event}
use Rattle.fnc_journal.specs.declared.event.Described.{Described}
use Rattle.fnc_journal.specs.History.{History}
use Rattle.fnc_journal.specs.Found.{entry_at}
use Rattle.fnc_agent_api.specs.Descriptions as Descriptions
use Rattle.fnc_config.specs.Configured.{last_agent, last_agent_here}
use Rattle.fnc_desk.specs.Agents.{description_of}

-- an agent that no entry describes has the plain description
pub undescribed : (name : List ℕ) (h : History) → last_agent name h ≡ None → description_of name h ≡ Descriptions.plain
undescribed name [] l = refl
undescribed name (x ∷ before) l = go x.event l (undescribed name before)
  where
    go : (event : Event) → last_agent_here name (length before) event (last_agent name before) ≡ None →
        (last_agent name before ≡ None → description_of name before ≡ Descriptions.plain) →
        description_of name (record { moment = x.moment; event = event } ∷ before) ≡ Descriptions.plain
    go (Event.Agent d) l ih = here (bytes_eq name d.name) l
      where
        here : (b : Bool) → cond b (Some (length before)) (last_agent name before) ≡ None →
            cond b d.description (description_of name before) ≡ Descriptions.plain
        here true l = cc
        here false l = ih l
    go _ l ih = ih l

-- the entry stands in the journal
pub agent-within : (name : List ℕ) (h : History) (at : ℕ) → last_agent name h ≡ Some at → at < length h
agent-within name [] at l = cc
agent-within name (x ∷ before) at l = go x.event l (agent-within name before at)
  where
    go : (event : Event) → last_agent_here name (length before) event (last_agent name before) ≡ Some at →
        (last_agent name before ≡ Some at → at < length before) → at < length (x ∷ before)
    go (Event.Agent d) l ih = here (bytes_eq name d.name) l
      where
        here : (b : Bool) → cond b (Some (length before)) (last_agent name before) ≡ Some at → at < length (x ∷ before)
        here true l = let same : length before ≡ at = cc in omega (arith, same)
        here false l = let less : at < length before = ih l in omega (arith, less)
    go _ l ih = let less : at < length before = ih l in omega (arith, less)

-- the event is a description, and the one that counts
abbrev pub IsLast : List ℕ → History → Event → Type 0
IsLast name h (Event.Agent d) = description_of name h ≡ d.description
IsLast name h _ = ⊥

still-last : (name : List ℕ) (g h : History) (event : Event) → description_of name h ≡ description_of name g →
    IsLast name g event → IsLast name h event
still-last name g h (Event.Agent d) same k = same ∙ k
still-last name g h _ same k = absurd k

-- which is never another event
pub not-last : (name : List ℕ) (h : History) (event : Event) → IsLast name h event →
    ((d : Described) → event ≡ Event.Agent d → ⊥) → ⊥
not-last name h (Event.Agent d) l never = never d refl
not-last name h _ l never = l

pub described-at : (name : List ℕ) (h : History) (at : ℕ) (e : Entry) → last_agent name h ≡ Some at →
    entry_at at h ≡ Some e → IsLast name h e.event
described-at name [] at e l q = cc
described-at name (x ∷ before) at e l q = go x.event l q (described-at name before at e) (agent-within name before at)
  where
    earlier : (event : Event) →
        cond (at == length before) (Some (record { moment = x.moment; event = event })) (entry_at at before) ≡ Some e →
        at < length before → entry_at at before ≡ Some e
    earlier event q less =
        let other : (at == length before) ≡ false = ne_eqb at (length before) (λ k. omega (arith, less, k)) in
        subst (λ b. cond b (Some (record { moment = x.moment; event = event })) (entry_at at before) ≡ Some e) other q

    go : (event : Event) → last_agent_here name (length before) event (last_agent name before) ≡ Some at →
        cond (at == length before) (Some (record { moment = x.moment; event = event })) (entry_at at before) ≡ Some e →
        (last_agent name before ≡ Some at → entry_at at before ≡ Some e → IsLast name before e.event) →
        (last_agent name before ≡ Some at → at < length before) →
        IsLast name (record { moment = x.moment; event = event } ∷ before) e.event
    go (Event.Agent d) l q ih less = here (bytes_eq name d.name) refl l
      where
        this : Entry
        this = record { moment = x.moment; event = Event.Agent d }

        here : (b : Bool) → bytes_eq name d.name ≡ b →
            cond b (Some (length before)) (last_agent name before) ≡ Some at → IsLast name (this ∷ before) e.event
        here true k l =
            let at_is : length before ≡ at = cc in
            let found : this ≡ e = found_here at_is in
            subst (λ (y : Entry). IsLast name (this ∷ before) y.event) found (rw k refl)
          where
            found_here : length before ≡ at → this ≡ e
            found_here p =
                let same : Some this ≡ Some e =
                subst (λ b. cond b (Some this) (entry_at at before) ≡ Some e) (eq-eqb at (length before) (sym p)) q in
                cc
        here false k l =
            still-last name before (this ∷ before) e.event (rw k refl) (ih l (earlier (Event.Agent d) q (less l)))
    go (Event.Device d) l q ih less = ih l (earlier (Event.Device d) q (less l))
    go (Event.Gone d) l q ih less = ih l (earlier (Event.Gone d) q (less l))
    go (Event.Level d) l q ih less = ih l (earlier (Event.Level d) q (less l))
    go (Event.LevelGone d) l q ih less = ih l (earlier (Event.LevelGone d) q (less l))
    go (Event.Ask d) l q ih less = ih l (earlier (Event.Ask d) q (less l))
    go (Event.Exit d) l q ih less = ih l (earlier (Event.Exit d) q (less l))
    go Event.Pass l q ih less = ih l (earlier Event.Pass q (less l))
    go (Event.Confirm d) l q ih less = ih l (earlier (Event.Confirm d) q (less l))
    go (Event.Refused d) l q ih less = ih l (earlier (Event.Refused d) q (less l))
    go (Event.Start d) l q ih less = ih l (earlier (Event.Start d) q (less l))
    go (Event.Reply d) l q ih less = ih l (earlier (Event.Reply d) q (less l))
