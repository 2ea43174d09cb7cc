-- What replies alone leave as it was: numbers, registrations, which runs are alive, what is in order, and plans.
use Rattle.std.proofs.Common.{
  ℕ,
  List,
  [],
  ◌∷◌,
  ◌++◌,
  Bool,
  true,
  false,
  ◌≡◌,
  ◌≤◌,
  ◌+◌,
  ◌*◌,
  ◌==◌,
  ◌&&◌,
  not,
  refl,
  ap,
  ap₂,
  sym,
  ◌∙◌,
  Option,
  Some,
  None,
  cond,
  arith,
  length,
  map,
  eqb-true,
  ne_eqb,
  nat_le,
}
use Rattle.std.specs.Prelude.{option_and_then, option_map}
use Rattle.std.specs.List.{cons_option}
use Rattle.fnc_journal.specs.declared.entry.Answer.{Answer}
use Rattle.fnc_journal.specs.declared.entry.Entry.{Entry}
use Rattle.fnc_journal.specs.declared.event.Event.{Event}
use Rattle.fnc_journal.specs.declared.entry.Kind.{Kind}
use Rattle.fnc_journal.specs.declared.entry.LevelTarget.{LevelTarget}
use Rattle.fnc_journal.specs.declared.entry.Req.{Req}
use Rattle.fnc_journal.specs.declared.entry.Scope.{Scope}
use Rattle.fnc_journal.specs.declared.plan.Candidate.{Candidate}
use Rattle.fnc_journal.specs.declared.plan.Plan.{Plan}
use Rattle.fnc_journal.specs.Device.{Device}
use Rattle.fnc_journal.specs.Found.{asks, devices, starts, registration, is_reply, entry_at}
use Rattle.fnc_journal.specs.declared.limits.TheConstants.{DAY}
use Rattle.fnc_journal.specs.History.{History}
use Rattle.fnc_journal.specs.Lawful.{in_order, may_ask}
use Rattle.fnc_journal.specs.Levels.{
  Level,
  levels,
  stands,
  oldest,
  pattern_here,
  pattern_at,
  pattern_levels,
  scoped,
  is_in_place,
}
use Rattle.fnc_journal.specs.Missing.{is_number}
use Rattle.fnc_journal.specs.Plan.{
  Wanted,
  plan,
  plan_level,
  candidate,
  candidate_here,
  candidates_among,
  candidates_by,
  with_any,
}
use Rattle.fnc_journal.specs.Served.{AreReplies}
use Rattle.fnc_journal.specs.Owed.{tries_of}
use Rattle.fnc_journal.specs.Slots.{QueriedDevice, all_slots, device_of, queried, queried_from}
use Rattle.fnc_journal.specs.Startable.{is_alive}
use Rattle.fnc_ops.specs.Stands.{reply_entry}
use Rattle.fnc_core.specs.declared.change.Ask.{Ask}
use Rattle.fnc_core.specs.Between.{IsPlanOf, operation_with, need_of}

-- what one reply leaves as it was, replies leave so
pub replied : {X : Type 0} (f : History → X) →
    ((m : ℕ) (req : Req) (answer : Answer) (h : History) → f (reply_entry m req answer ∷ h) ≡ f h) →
    (m : ℕ) (rs h : History) → AreReplies m rs → f (rs ++ h) ≡ f h
replied f k m [] h a = refl
replied f k m (e ∷ rs) h a = go e.event a.0.0 (replied f k m rs h a.1)
  where
    go : (event : Event) → is_reply event ≡ true → f (rs ++ h) ≡ f h →
        f (record { moment = e.moment; event = event } ∷ (rs ++ h)) ≡ f h
    go (Event.Reply reply) r ih = k e.moment reply.req reply.answer (rs ++ h) ∙ ih
    go (Event.Device device) q ih = cc
    go (Event.Gone reg) q ih = cc
    go (Event.Level set) q ih = cc
    go (Event.LevelGone cleared) q ih = cc
    go (Event.Agent described) q ih = cc
    go (Event.Ask ask) q ih = cc
    go (Event.Exit ended) q ih = cc
    go Event.Pass q ih = cc
    go (Event.Confirm confirmation) q ih = cc
    go (Event.Refused refusal) q ih = cc
    go (Event.Start start) q ih = cc

-- no entry has a number past the end
entry-past : (n : ℕ) (h : History) → length h ≤ n → entry_at n h ≡ None
entry-past n [] k = refl
entry-past n (e ∷ before) k = let other : (n == length before) ≡ false =
    ne_eqb n (length before) (λ g. omega (arith, k, g)) in rw other (entry-past n before (omega (arith, k)))

-- one reply
module _ (m : ℕ) (req : Req) (answer : Answer) (h : History) where
  abbrev after : History
  after = reply_entry m req answer ∷ h

  pattern-replied : (n : ℕ) → pattern_at n after ≡ pattern_at n h
  pattern-replied n = go (n == length h) refl
    where
      go : (b : Bool) → (n == length h) ≡ b → option_and_then (λ (e : Entry). pattern_here e.event)
          (cond b (Some (reply_entry m req answer)) (entry_at n h)) ≡ pattern_at n h
      go true e = let at : n ≡ length h = eqb-true n (length h) e in sym
          (ap (option_and_then (λ (e : Entry). pattern_here e.event)) (entry-past n h (omega (arith, at))))
      go false e = refl

  levels-replied : (n : ℕ) → pattern_levels n after ≡ pattern_levels n h
  levels-replied n = go (pattern_at n h) refl
    where
      go : (x : Option (List ℕ)) → pattern_at n h ≡ x → pattern_levels n after ≡ pattern_levels n h
      go None e =
          let now : pattern_levels n after ≡ [] = rw (pattern-replied n ∙ e, pattern_levels) refl in
          let before : pattern_levels n h ≡ [] = rw (e, pattern_levels) refl in
          now ∙ sym before
      go (Some text) e =
          let now : pattern_levels n after ≡ levels (LevelTarget.Pattern text) h =
          rw (pattern-replied n ∙ e, pattern_levels) refl in
          let before : pattern_levels n h ≡ levels (LevelTarget.Pattern text) h = rw (e, pattern_levels) refl in
          now ∙ sym before

  scoped-replied : (scope : Scope) (target : List ℕ) → scoped scope target after ≡ scoped scope target h
  scoped-replied Scope.Nothing target = refl
  scoped-replied Scope.Name target = refl
  scoped-replied (Scope.Pattern n) target = levels-replied n

  place-replied : (scope : Scope) (target : List ℕ) → is_in_place scope target after ≡ is_in_place scope target h
  place-replied Scope.Nothing target = refl
  place-replied Scope.Name target = refl
  place-replied (Scope.Pattern n) target = ap
      (λ (ls : List Level). not (stands (LevelTarget.Name target) h) && is_number (oldest ls) n) (levels-replied n)

  order-replied : (event : Event) → in_order event after ≡ in_order event h
  order-replied (Event.Ask ask) =
      ap (λ b. (ask.req.0 == asks h) && may_ask ask.kind && nat_le 1 ask.total && nat_le ask.total DAY && b)
      (place-replied ask.scope ask.target)
  order-replied (Event.Device device) = refl
  order-replied (Event.Gone reg) = refl
  order-replied (Event.LevelGone cleared) = refl
  order-replied (Event.Exit ended) = refl
  order-replied (Event.Start start) = refl
  order-replied (Event.Reply reply) = refl
  order-replied _ = refl

  candidate-replied : (w : Wanted) (event : Event) → candidate_here w after event ≡ candidate_here w h event
  candidate-replied w (Event.Device device) = refl
  candidate-replied w _ = refl

  candidates-replied : (w : Wanted) (es : History) → candidates_among w after es ≡ candidates_among w h es
  candidates-replied w [] = refl
  candidates-replied w (e ∷ es) = ap₂ (λ (x : Option Device) (ds : List Device). with_any x ds)
      (candidate-replied w e.event) (candidates-replied w es)

  plan-kept : (w : Wanted) → plan w after ≡ plan w h
  plan-kept w =
      ap₂ (λ (ls : List Level) (ds : List Device). record {
        scope = w.scope;
        levels = map (plan_level h) ls;
        candidates =
            candidates_by w.scope (map (candidate w h) ds);
      }) (scoped-replied w.scope w.target) (candidates-replied w h)

  queried-replied : (place : ℕ) (cs : List Candidate) → queried_from place after cs ≡ queried_from place h cs
  queried-replied place [] = refl
  queried-replied place (c ∷ cs) = ap (cons_option (option_map (queried place c.query) (device_of h c.reg)))
      (queried-replied (place + 1) cs)

  need-kept : (begin : ℕ) (r : Req) (a : Ask) (p : Plan) → need_of after begin r a p ≡ need_of h begin r a p
  need-kept begin r a p = ap (λ (cs : List QueriedDevice). 2 + 2 * tries_of
      (all_slots (record (operation_with h begin r a p) { candidates = cs }))) (queried-replied 0 p.candidates)

-- so replies leave it
module _ (m : ℕ) (rs h : History) (are : AreReplies m rs) where
  pub devices-replied : devices (rs ++ h) ≡ devices h
  devices-replied = replied devices (λ m req answer h. refl) m rs h are

  pub asks-replied : asks (rs ++ h) ≡ asks h
  asks-replied = replied asks (λ m req answer h. refl) m rs h are

  pub starts-replied : starts (rs ++ h) ≡ starts h
  starts-replied = replied starts (λ m req answer h. refl) m rs h are

  pub registration-replied : (n : ℕ) → registration n (rs ++ h) ≡ registration n h
  registration-replied n = replied (registration n) (λ m req answer h. refl) m rs h are

  pub is_alive-replied : (run : ℕ) → is_alive run (rs ++ h) ≡ is_alive run h
  is_alive-replied run = replied (is_alive run) (λ m req answer h. refl) m rs h are

  pub is_in_place-replied : (scope : Scope) (target : List ℕ) →
      is_in_place scope target (rs ++ h) ≡ is_in_place scope target h
  is_in_place-replied scope target = replied (is_in_place scope target)
      (λ m req answer h. place-replied m req answer h scope target) m rs h are

  pub in_order-replied : (event : Event) → in_order event (rs ++ h) ≡ in_order event h
  in_order-replied event = replied (in_order event) (λ m req answer h. order-replied m req answer h event) m rs h are

  pub plan-replied : (w : Wanted) → plan w (rs ++ h) ≡ plan w h
  plan-replied w = replied (plan w) (λ m req answer h. plan-kept m req answer h w) m rs h are

  pub is_plan-replied : (begin : ℕ) (kind : Kind) (target : List ℕ) (p : Plan) → IsPlanOf h begin kind target p →
      IsPlanOf (rs ++ h) begin kind target p
  is_plan-replied begin kind target p k =
      k ∙ sym (plan-replied (record { kind = kind; target = target; begin = begin; scope = p.scope }))

  -- the entries that a request wants are as many
  pub need-replied : (begin : ℕ) (req : Req) (a : Ask) (p : Plan) →
      need_of (rs ++ h) begin req a p ≡ need_of h begin req a p
  need-replied begin req a p = replied (λ g. need_of g begin req a p)
      (λ m r answer h. need-kept m r answer h begin req a p) m rs h are
