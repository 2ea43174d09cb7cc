-- The configuration of a journal, entry by entry: its numbers are the current registrations and the last descriptions.
use Rattle.std.proofs.Common.{
  ℕ,
  List,
  [],
  ◌∷◌,
  Bool,
  true,
  false,
  ◌≡◌,
  ◌+◌,
  ap,
  sym,
  ◌∙◌,
  refl,
  subst,
  None,
  Some,
  IsTrue,
  if◌then◌else◌,
  cond,
  length,
}
use Rattle.std.specs.Prelude.{bytes_eq}
use Rattle.std.specs.Cmp.Lexicographic.{same_text}
use Rattle.std.proofs.lemmas.Bool.{eqb-true}
use Rattle.fnc_journal.specs.declared.entry.LevelTarget.{LevelTarget}
use Rattle.fnc_journal.specs.declared.event.Event.{Event}
use Rattle.fnc_journal.specs.Found.{devices}
use Rattle.fnc_journal.specs.History.{History}
use Rattle.fnc_journal.specs.Lawful.{Lawful, in_order}
use Rattle.fnc_journal.specs.Levels.{Level}
use Rattle.fnc_journal.specs.Missing.{is_number}
use Rattle.fnc_journal.specs.Registered.{current}
use Rattle.fnc_journal.proofs.Lawfulness.{in_order-of}
use Rattle.fnc_config.specs.Configured.{
  Configured,
  Numbered,
  configured,
  configured_by,
  last_agent,
  last_agent_here,
  number_of,
  with_last,
  with_number,
  with_target_level,
  without_target_level,
}
use Rattle.fnc_config.proofs.Registry.{IsRegistry, number-gone, number-with, registry-with, registry-without-number}

-- levels are beside devices and agents
pub devices-beside : (t : LevelTarget) (l : Level) (c : Configured) → (with_target_level t l c).devices ≡ c.devices
devices-beside (LevelTarget.Name text) l c = refl
devices-beside (LevelTarget.Pattern text) l c = refl

pub devices-apart : (t : LevelTarget) (n : ℕ) (c : Configured) → (without_target_level t n c).devices ≡ c.devices
devices-apart (LevelTarget.Name text) n c = refl
devices-apart (LevelTarget.Pattern text) n c = refl

agents-beside : (t : LevelTarget) (l : Level) (c : Configured) → (with_target_level t l c).agents ≡ c.agents
agents-beside (LevelTarget.Name text) l c = refl
agents-beside (LevelTarget.Pattern text) l c = refl

agents-apart : (t : LevelTarget) (n : ℕ) (c : Configured) → (without_target_level t n c).agents ≡ c.agents
agents-apart (LevelTarget.Name text) n c = refl
agents-apart (LevelTarget.Pattern text) n c = refl

-- the registry of a lawful journal
pub registry : (h : History) → Lawful h → IsRegistry (configured h).devices (devices h)
registry [] l = tt
registry (e ∷ before) l = go e.event (in_order-of e.moment e.event before l.0.ordered) (registry before l.1)
  where
    go : (event : Event) → IsTrue (in_order event before) → IsRegistry (configured before).devices (devices before) →
        IsRegistry (configured_by (length before) event (configured before)).devices
        (devices (record { moment = e.moment; event = event } ∷ before))
    go (Event.Device device) i r =
        let same : device.reg.0 ≡ devices before = eqb-true _ _ i in
        subst (λ n. IsRegistry (with_last device.registration.name n (configured before).devices) (devices before + 1))
        (sym same) (registry-with _ _ _ r)
    go (Event.Gone reg) i r = registry-without-number reg.0 _ _ r
    go (Event.Level set) i r =
        subst (λ ds. IsRegistry ds (devices before)) (sym (devices-beside set.target _ (configured before))) r
    go (Event.LevelGone cleared) i r =
        subst (λ ds. IsRegistry ds (devices before)) (sym (devices-apart cleared.target cleared.index
        (configured before))) r
    go _ i r = r

-- its numbers are the current registrations
pub numbers-current : (name : List ℕ) (h : History) → Lawful h → number_of name (configured h).devices ≡ current name h
numbers-current name [] l = refl
numbers-current name (e ∷ before) l = go e.event (registry before l.1) (numbers-current name before l.1)
  where
    go : (event : Event) → IsRegistry (configured before).devices (devices before) →
        number_of name (configured before).devices ≡ current name before →
        number_of name (configured_by (length before) event (configured before)).devices
        ≡ current name (record { moment = e.moment; event = event } ∷ before)
    go (Event.Device device) r same =
        number-with name device.registration.name (configured before).devices (devices before) device.reg.0 r
        ∙ ap (λ o. if bytes_eq name device.registration.name then Some device.reg.0 else o) same
    go (Event.Gone reg) r same =
        number-gone name (configured before).devices (devices before) reg.0 r
        ∙ ap (λ o. if is_number o reg.0 then None else o) same
    go (Event.Level set) r same = ap (number_of name) (devices-beside set.target _ (configured before)) ∙ same
    go (Event.LevelGone cleared) r same =
        ap (number_of name) (devices-apart cleared.target cleared.index (configured before)) ∙ same
    go _ r same = same

-- a name in its place, or at the end
number-put : (name other : List ℕ) (n : ℕ) (es : Numbered) →
    number_of name (with_number other n es) ≡ (if bytes_eq name other then Some n else number_of name es)
number-put name other n [] = refl
number-put name other n (e ∷ es) = go (bytes_eq other e.0) refl (number-put name other n es)
  where
    alike : (b : Bool) → cond b (Some n) (number_of name es)
        ≡ (if b then Some n else cond b (Some e.1) (number_of name es))
    alike true = refl
    alike false = refl

    unlike : (b : Bool) → bytes_eq name other ≡ b → bytes_eq other e.0 ≡ false →
        number_of name (with_number other n es) ≡ (if b then Some n else number_of name es) →
        cond (bytes_eq name e.0) (Some e.1) (number_of name (with_number other n es))
        ≡ (if b then Some n else cond (bytes_eq name e.0) (Some e.1) (number_of name es))
    unlike true p q rest =
        let apart : bytes_eq name e.0 ≡ false =
        subst (λ o. bytes_eq o e.0 ≡ false) (sym (same_text name other (sym p))) q in
        rw apart rest
    unlike false p q rest = ap (cond (bytes_eq name e.0) (Some e.1)) rest

    go : (b : Bool) → bytes_eq other e.0 ≡ b →
        number_of name (with_number other n es) ≡ (if bytes_eq name other then Some n else number_of name es) →
        number_of name (cond b ((e.0, n) ∷ es) (e ∷ with_number other n es))
        ≡ (if bytes_eq name other then Some n else number_of name (e ∷ es))
    go true q rest =
        subst
        (λ o. cond (bytes_eq name e.0) (Some n) (number_of name es)
        ≡ (if bytes_eq name o then Some n else cond (bytes_eq name e.0) (Some e.1) (number_of name es)))
        (sym (same_text other e.0 (sym q))) (alike (bytes_eq name e.0))
    go false q rest = unlike (bytes_eq name other) refl q rest

-- its agents are described by the last entries
pub agents-last : (name : List ℕ) (h : History) → number_of name (configured h).agents ≡ last_agent name h
agents-last name [] = refl
agents-last name (e ∷ before) = go e.event (agents-last name before)
  where
    go : (event : Event) → number_of name (configured before).agents ≡ last_agent name before →
        number_of name (configured_by (length before) event (configured before)).agents
        ≡ last_agent_here name (length before) event (last_agent name before)
    go (Event.Agent described) same =
        number-put name described.name (length before) (configured before).agents
        ∙ ap (λ o. if bytes_eq name described.name then Some (length before) else o) same
    go (Event.Level set) same = ap (number_of name) (agents-beside set.target _ (configured before)) ∙ same
    go (Event.LevelGone cleared) same =
        ap (number_of name) (agents-apart cleared.target cleared.index (configured before)) ∙ same
    go _ same = same
