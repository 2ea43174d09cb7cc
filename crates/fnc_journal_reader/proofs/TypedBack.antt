-- What is read has the types of an entry's fields.
use Rattle.std.proofs.Common.{
  ◌≡◌,
  ◌<◌,
  ◌≤◌,
  ◌^◌,
  ℕ,
  List,
  [],
  ◌∷◌,
  Bool,
  true,
  false,
  cond,
  Option,
  Some,
  None,
  Result,
  Ok,
  Err,
  refl,
  subst,
  arith,
  codes,
  drop,
  ◌==◌,
}
use Rattle.std.specs.Prelude.{nat_le, bytes_eq}
use Rattle.std.specs.List.{list_all, list_any}
use Rattle.std.specs.Str.{is_utf8}
use Rattle.std.proofs.lemmas.Bool.{leb-true}
use Rattle.fnc_journal.specs.declared.definition.Allowed.{Allowed}
use Rattle.fnc_journal.specs.declared.definition.Base.{Base}
use Rattle.fnc_journal.specs.declared.definition.Definition.{Definition}
use Rattle.fnc_journal.specs.declared.definition.Delay.{Delay}
use Rattle.fnc_journal.specs.declared.definition.Parameter.{Parameter}
use Rattle.fnc_journal.specs.declared.entry.Answer.{Answer}
use Rattle.fnc_journal.specs.declared.entry.Entry.{Entry}
use Rattle.fnc_journal.specs.declared.event.Event.{Event}
use Rattle.fnc_journal.specs.declared.entry.Exit.{Exit}
use Rattle.fnc_journal.specs.declared.entry.LevelTarget.{LevelTarget}
use Rattle.fnc_journal.specs.declared.entry.Scope.{Scope}
use Rattle.fnc_journal.specs.declared.names.Pair.{Pair}
use Rattle.fnc_text.specs.declared.escape.EscapeFault.{EscapeFault}
use Rattle.fnc_text.specs.Digits.{digits_value, is_number}
use Rattle.fnc_text.specs.Escapes.{as_text, unescaped}
use Rattle.fnc_journal_reader.specs.declared.fault.EntryFault.{EntryFault}
use Rattle.fnc_journal_reader.specs.Cuts.{after, front, nth, parts, value}
use Rattle.fnc_journal_reader.specs.Entries as Entries
use Rattle.fnc_journal_reader.specs.Reads.{◌>>=◌, each, or_malformed}
use Rattle.fnc_journal_reader.specs.Typed as Typed
use Rattle.fnc_journal_reader.specs.Values as Values

-- a step that succeeded
record Succeeds {A B : Type 0} (r : Result A EntryFault) (f : A → Result B EntryFault) (y : B) : Type 0 where
  value : A
  got : r ≡ Ok value
  rest : f value ≡ Ok y

succeeds : {A B : Type 0} (r : Result A EntryFault) (f : A → Result B EntryFault) (y : B) → (r >>= f) ≡ Ok y →
    Succeeds r f y
succeeds (Ok x) f y h = record { value = x; got = refl; rest = h }
succeeds (Err fault) f y h = absurd cc

same : {A : Type 0} {x y : A} → ◌≡◌ {A = Result A EntryFault} (Ok x) (Ok y) → x ≡ y
same h = cc

-- numbers
most-of : (most : ℕ) (w : List ℕ) (n : ℕ) → Values.number_of most w ≡ Ok n → n ≤ most
most-of most w n h = go (is_number w) (nat_le (digits_value w) most) refl h
  where
    go : (digits small : Bool) → nat_le (digits_value w) most ≡ small →
        or_malformed (cond digits (cond small (Some (digits_value w)) None) None) ≡ Ok n → n ≤ most
    go true true e k = subst (λ v. v ≤ most) (same k) (leb-true (digits_value w) most e)
    go true false e k = absurd cc
    go false small e k = absurd cc

u64-typed : (w : List ℕ) (n : ℕ) → Values.u64_of w ≡ Ok n → n < 2 ^ 64
u64-typed w n h = let small : n ≤ 18446744073709551615 = most-of 18446744073709551615 w n h in omega (arith, small)

u32-typed : (w : List ℕ) (n : ℕ) → Values.u32_of w ≡ Ok n → n < 2 ^ 32
u32-typed w n h = let small : n ≤ 4294967295 = most-of 4294967295 w n h in omega (arith, small)

u8-typed : (w : List ℕ) (n : ℕ) → Values.u8_of w ≡ Ok n → n < 2 ^ 8
u8-typed w n h = let small : n ≤ 255 = most-of 255 w n h in omega (arith, small)

-- texts
text-typed : (w t : List ℕ) → Values.text_of w ≡ Ok t → Typed.are_characters t ≡ true
text-typed w t h = go (unescaped w) h
  where
    told : (bytes : List ℕ) (is : Bool) → is_utf8 bytes ≡ is →
        Values.or_no_text (cond is (Ok bytes) (Err EscapeFault.NotUtf8)) ≡ Ok t → Typed.are_characters t ≡ true
    told bytes true e k = subst (λ x. is_utf8 x ≡ true) (same k) e
    told bytes false e k = absurd cc

    go : (r : Result (List ℕ) EscapeFault) → Values.or_no_text (as_text r) ≡ Ok t → Typed.are_characters t ≡ true
    go (Ok bytes) k = told bytes (is_utf8 bytes) refl k
    go (Err fault) k = absurd cc

optional-typed : (w : List ℕ) (t : Option (List ℕ)) → Values.optional_of w ≡ Ok t → Typed.is_optional t ≡ true
optional-typed [] t h = subst (λ x. Typed.is_optional x ≡ true) (same h) refl
optional-typed (b ∷ bs) t h =
    let text = succeeds (Values.text_of (b ∷ bs)) _ t h in
    subst (λ x. Typed.is_optional x ≡ true) (same text.rest) (text-typed (b ∷ bs) text.value text.got)

-- lists
each-typed : {X : Type 0} (read : List ℕ → Result X EntryFault) (q : X → Bool) →
    ((w : List ℕ) (x : X) → read w ≡ Ok x → q x ≡ true) → (ws : List (List ℕ)) (xs : List X) → each read ws ≡ Ok xs →
    list_all q xs ≡ true
each-typed read q f [] xs h = subst (λ ys. list_all q ys ≡ true) (same h) refl
each-typed read q f (w ∷ ws) xs h =
    let first = succeeds (read w) _ xs h in
    let others = succeeds (each read ws) _ xs first.rest in
    subst (λ ys. list_all q ys ≡ true) (same others.rest)
    (rw (f w first.value first.got, each-typed read q f ws others.value others.got) refl)

pair-typed : (sep : ℕ) (w : List ℕ) (p : Pair) → Values.pair_of sep w ≡ Ok p → Typed.is_pair p ≡ true
pair-typed sep w p h =
    let name = succeeds (Values.text_of (front sep w)) _ p h in
    let text = succeeds (Values.text_of (after sep w)) _ p name.rest in
    subst (λ x. Typed.is_pair x ≡ true) (same text.rest)
    (rw (text-typed (front sep w) name.value name.got, text-typed (after sep w) text.value text.got) refl)

delay-typed : (w : List ℕ) (d : Delay) → Values.delay_of w ≡ Ok d → Typed.is_delay d ≡ true
delay-typed w d h =
    let name = succeeds (Values.text_of (front 58 w)) _ d h in
    let ms = succeeds (Values.u64_of (after 58 w)) _ d name.rest in
    subst (λ x. Typed.is_delay x ≡ true) (same ms.rest) (text-typed (front 58 w) name.value name.got)

parameter-typed : (w : List ℕ) (p : Parameter) → Values.parameter_of w ≡ Ok p → Typed.is_parameter p ≡ true
parameter-typed w p h =
    let name = succeeds (Values.text_of (front 61 (drop 2 w))) _ p h in
    subst (λ x. Typed.is_parameter x ≡ true) (same name.rest) (text-typed (front 61 (drop 2 w)) name.value name.got)

base-typed : (w : List ℕ) (base : Base) → Values.base_of w ≡ Ok base → Typed.is_base base ≡ true
base-typed w base h = go (list_any (λ b. b == 58) w) h
  where
    go : (colon : Bool) →
        cond colon (each Values.delay_of (parts 59 w) >>= λ delays. Ok (Base.ByNode delays)) (Values.u64_of w >>= λ ms. Ok (Base.Fixed ms)) ≡ Ok base →
        Typed.is_base base ≡ true
    go true k =
        let delays = succeeds (each Values.delay_of (parts 59 w)) _ base k in
        subst (λ x. Typed.is_base x ≡ true) (same delays.rest)
        (each-typed Values.delay_of Typed.is_delay delay-typed (parts 59 w) delays.value delays.got)
    go false k = let ms = succeeds (Values.u64_of w) _ base k in subst (λ x. Typed.is_base x ≡ true) (same ms.rest) refl

allowed-typed : (w : List ℕ) (a : Allowed) → Values.allowed_of w ≡ Ok a → Typed.are_characters a.word ≡ true
allowed-typed w a h =
    let word = succeeds (Values.text_of (front 47 w)) _ a h in
    let time = succeeds (Values.u64_of (front 47 (after 47 w))) _ a word.rest in
    let tries = succeeds (Values.u8_of (after 47 (after 47 w))) _ a time.rest in
    subst (λ (x : Allowed). Typed.are_characters x.word ≡ true) (same tries.rest)
    (text-typed (front 47 w) word.value word.got)

-- cases
exit-typed : (w : List ℕ) (e : Exit) → Values.exit_of w ≡ Ok e → Typed.IsExit e
exit-typed w e h =
    go (bytes_eq w (codes "signal")) (bytes_eq w (codes "no-start")) (bytes_eq w (codes "too-long"))
    (bytes_eq w (codes "no-memory")) h
  where
    go : (a b c d : Bool) →
        cond a (Ok Exit.Signal) (cond b (Ok Exit.NoStart) (cond c (Ok Exit.TooLong) (cond d (Ok Exit.NoMemory) (Values.u8_of w >>= λ code. Ok (Exit.Code code))))) ≡ Ok e → Typed.IsExit e
    go true b c d k = subst Typed.IsExit (same k) tt
    go false true c d k = subst Typed.IsExit (same k) tt
    go false false true d k = subst Typed.IsExit (same k) tt
    go false false false true k = subst Typed.IsExit (same k) tt
    go false false false false k =
        let code = succeeds (Values.u8_of w) _ e k in
        subst Typed.IsExit (same code.rest) (u8-typed w code.value code.got)

scope-typed : (w : List ℕ) (s : Scope) → Values.scope_of w ≡ Ok s → Typed.IsScope s
scope-typed w s h = go (bytes_eq w (codes "none")) (bytes_eq w (codes "name")) h
  where
    go : (a b : Bool) → cond a (Ok Scope.Nothing) (cond b (Ok Scope.Name) (Values.u32_of (after 58 w) >>= λ index. Ok (Scope.Pattern index))) ≡ Ok s → Typed.IsScope s
    go true b k = subst Typed.IsScope (same k) tt
    go false true k = subst Typed.IsScope (same k) tt
    go false false k =
        let index = succeeds (Values.u32_of (after 58 w)) _ s k in
        subst Typed.IsScope (same index.rest) (u32-typed (after 58 w) index.value index.got)

answer-typed : (v w : List ℕ) (a : Answer) → Values.answer_of v w ≡ Ok a → Typed.IsAnswer a
answer-typed v w a h = go (bytes_eq v (codes "ok")) h
  where
    success : (is : Bool) →
        cond is (Ok Answer.Confirmed) (Values.u8_of w >>= λ level. Ok (Answer.Passed level)) ≡ Ok a → Typed.IsAnswer a
    success true k = subst Typed.IsAnswer (same k) tt
    success false k =
        let level = succeeds (Values.u8_of w) _ a k in
        subst Typed.IsAnswer (same level.rest) (u8-typed w level.value level.got)

    failure : (x y z : Bool) → cond x (Ok Answer.Levels) (cond y (Ok Answer.Time) (cond z (Ok Answer.NoDevice) (Err EntryFault.Malformed))) ≡ Ok a → Typed.IsAnswer a
    failure true y z k = subst Typed.IsAnswer (same k) tt
    failure false true z k = subst Typed.IsAnswer (same k) tt
    failure false false true k = subst Typed.IsAnswer (same k) tt
    failure false false false k = absurd cc

    go : (ok : Bool) → cond ok (Values.success_of w) (Values.failure_of w) ≡ Ok a → Typed.IsAnswer a
    go true k = success (bytes_eq w (codes "confirmed")) k
    go false k = failure (bytes_eq w (codes "levels")) (bytes_eq w (codes "time")) (bytes_eq w (codes "none")) k

target-typed : (v w : List ℕ) (t : LevelTarget) → Values.target_of v w ≡ Ok t → Typed.is_target t ≡ true
target-typed v w t h =
    let text = succeeds (Values.text_of w) _ t h in
    go (bytes_eq v (codes "name")) text.value (text-typed w text.value text.got) text.rest
  where
    go : (name : Bool) (text : List ℕ) → Typed.are_characters text ≡ true →
        ◌≡◌ {A = Result LevelTarget EntryFault} (cond name (Ok (LevelTarget.Name text)) (Ok (LevelTarget.Pattern text))) (Ok t) → Typed.is_target t ≡ true
    go true text u k = subst (λ x. Typed.is_target x ≡ true) (same k) u
    go false text u k = subst (λ x. Typed.is_target x ≡ true) (same k) u

-- events
definition-typed : (ws : List (List ℕ)) (d : Definition) → Entries.definition_of ws ≡ Ok d → Typed.IsDefinition d
definition-typed ws d h =
    let check = succeeds (Values.check_of (value ws 6)) _ d h in
    let hosts = succeeds (each Values.text_of (parts 44 (value ws 7))) _ d check.rest in
    let map = succeeds (each (Values.pair_of 58) (parts 59 (value ws 8))) _ d hosts.rest in
    let argument = succeeds (Values.optional_of (value ws 9)) _ d map.rest in
    let cap = succeeds (Values.cap_of (value ws 10)) _ d argument.rest in
    let priority = succeeds (Values.priority_of (value ws 11)) _ d cap.rest in
    let base = succeeds (Values.base_of (value ws 12)) _ d priority.rest in
    let max = succeeds (Values.u64_of (value ws 13)) _ d base.rest in
    let keep = succeeds (Values.u64_of (value ws 14)) _ d max.rest in
    let on = succeeds (Values.allowed_of (value ws 15)) _ d keep.rest in
    let off = succeeds (Values.allowed_of (value ws 16)) _ d on.rest in
    let reboot = succeeds (Values.allowed_of (value ws 17)) _ d off.rest in
    let list = succeeds (Values.allowed_of (value ws 18)) _ d reboot.rest in
    let status = succeeds (Values.allowed_of (value ws 19)) _ d list.rest in
    let own = succeeds (each Values.own_of (drop 20 ws)) _ d status.rest in
    subst Typed.IsDefinition (same own.rest)
    (record {
      hosts = each-typed Values.text_of Typed.are_characters text-typed (parts 44 (value ws 7)) hosts.value hosts.got;
      map = each-typed (Values.pair_of 58) Typed.is_pair (pair-typed 58) (parts 59 (value ws 8)) map.value map.got;
      argument = optional-typed (value ws 9) argument.value argument.got;
      base = base-typed (value ws 12) base.value base.got;
      on = allowed-typed (value ws 15) on.value on.got;
      off = allowed-typed (value ws 16) off.value off.got;
      reboot = allowed-typed (value ws 17) reboot.value reboot.got;
      list = allowed-typed (value ws 18) list.value list.got;
      status = allowed-typed (value ws 19) status.value status.got;
      own =
          each-typed Values.own_of Typed.is_pair (λ w p e. pair-typed 61 (drop 2 w) p e) (drop 20 ws) own.value own.got;
    })

module _ (ws : List (List ℕ)) (event : Event) where
  device-typed : Entries.device_of ws ≡ Ok event → Typed.IsEvent event
  device-typed h =
      let reg = succeeds (Values.u32_of (nth ws 2)) _ event h in
      let name = succeeds (Values.text_of (nth ws 3)) _ event reg.rest in
      let agent = succeeds (Values.text_of (nth ws 4)) _ event name.rest in
      let definition = succeeds (Entries.definition_of ws) _ event agent.rest in
      subst Typed.IsEvent (same definition.rest) (
        u32-typed (nth ws 2) reg.value reg.got,
        record {
          name = text-typed (nth ws 3) name.value name.got;
          agent = text-typed (nth ws 4) agent.value agent.got;
          definition = definition-typed ws definition.value definition.got;
        },
      )

  gone-typed : Entries.gone_of ws ≡ Ok event → Typed.IsEvent event
  gone-typed h =
      let reg = succeeds (Values.u32_of (nth ws 2)) _ event h in
      subst Typed.IsEvent (same reg.rest) (u32-typed (nth ws 2) reg.value reg.got)

  level-typed : Entries.level_of ws ≡ Ok event → Typed.IsEvent event
  level-typed h =
      let index = succeeds (Values.u8_of (nth ws 2)) _ event h in
      let target = succeeds (Values.target_of (nth ws 3) (nth ws 4)) _ event index.rest in
      let devices = succeeds (each Values.text_of (parts 44 (nth ws 5))) _ event target.rest in
      subst Typed.IsEvent (same devices.rest)
      (target-typed (nth ws 3) (nth ws 4) target.value target.got, each-typed Values.text_of Typed.are_characters text-typed (parts 44 (nth ws 5)) devices.value devices.got)

  level_gone-typed : Entries.level_gone_of ws ≡ Ok event → Typed.IsEvent event
  level_gone-typed h =
      let index = succeeds (Values.u8_of (nth ws 2)) _ event h in
      let target = succeeds (Values.target_of (nth ws 3) (nth ws 4)) _ event index.rest in
      subst Typed.IsEvent (same target.rest) (target-typed (nth ws 3) (nth ws 4) target.value target.got)

  agent-typed : Entries.agent_of ws ≡ Ok event → Typed.IsEvent event
  agent-typed h =
      let name = succeeds (Values.text_of (nth ws 2)) _ event h in
      let target = succeeds (Values.optional_of (value ws 4)) _ event name.rest in
      let parameters = succeeds (each Values.parameter_of (drop 5 ws)) _ event target.rest in
      subst Typed.IsEvent (same parameters.rest)
      (record {
        name = text-typed (nth ws 2) name.value name.got;
        target = optional-typed (value ws 4) target.value target.got;
        parameters =
            each-typed Values.parameter_of Typed.is_parameter parameter-typed (drop 5 ws) parameters.value
            parameters.got;
      })

  ask-typed : Entries.ask_of ws ≡ Ok event → Typed.IsEvent event
  ask-typed h =
      let req = succeeds (Values.u32_of (nth ws 2)) _ event h in
      let lead = succeeds (Values.u32_of (nth ws 3)) _ event req.rest in
      let client = succeeds (Values.text_of (nth ws 4)) _ event lead.rest in
      let kind = succeeds (Values.kind_of (nth ws 5)) _ event client.rest in
      let target = succeeds (Values.text_of (nth ws 6)) _ event kind.rest in
      let total = succeeds (Values.u64_of (nth ws 7)) _ event target.rest in
      let coin = succeeds (Values.u64_of (nth ws 8)) _ event total.rest in
      let scope = succeeds (Values.scope_of (nth ws 9)) _ event coin.rest in
      subst Typed.IsEvent (same scope.rest)
      (record {
        req = u32-typed (nth ws 2) req.value req.got;
        lead = u32-typed (nth ws 3) lead.value lead.got;
        client = text-typed (nth ws 4) client.value client.got;
        target = text-typed (nth ws 6) target.value target.got;
        total = u64-typed (nth ws 7) total.value total.got;
        coin = u64-typed (nth ws 8) coin.value coin.got;
        scope = scope-typed (nth ws 9) scope.value scope.got;
      })

  exited-typed : Entries.exited_of ws ≡ Ok event → Typed.IsEvent event
  exited-typed h =
      let run = succeeds (Values.u32_of (nth ws 2)) _ event h in
      let exit = succeeds (Values.exit_of (nth ws 3)) _ event run.rest in
      subst Typed.IsEvent (same exit.rest)
      (u32-typed (nth ws 2) run.value run.got, exit-typed (nth ws 3) exit.value exit.got)

  confirm-typed : Entries.confirm_of ws ≡ Ok event → Typed.IsEvent event
  confirm-typed h =
      let client = succeeds (Values.text_of (nth ws 2)) _ event h in
      let target = succeeds (Values.text_of (nth ws 3)) _ event client.rest in
      subst Typed.IsEvent (same target.rest)
      (text-typed (nth ws 2) client.value client.got, text-typed (nth ws 3) target.value target.got)

  refused-typed : Entries.refused_of ws ≡ Ok event → Typed.IsEvent event
  refused-typed h =
      let line = succeeds (Values.u32_of (nth ws 2)) _ event h in
      let cause = succeeds (Values.cause_of (nth ws 3)) _ event line.rest in
      subst Typed.IsEvent (same cause.rest) (u32-typed (nth ws 2) line.value line.got)

  start-typed : Entries.start_of ws ≡ Ok event → Typed.IsEvent event
  start-typed h =
      let run = succeeds (Values.u32_of (nth ws 2)) _ event h in
      let req = succeeds (Values.u32_of (nth ws 3)) _ event run.rest in
      let phase = succeeds (Values.phase_of (nth ws 4)) _ event req.rest in
      let level = succeeds (Values.u8_of (nth ws 5)) _ event phase.rest in
      let place = succeeds (Values.u8_of (nth ws 6)) _ event level.rest in
      let reg = succeeds (Values.u32_of (nth ws 7)) _ event place.rest in
      let kind = succeeds (Values.kind_of (nth ws 8)) _ event reg.rest in
      let attempt = succeeds (Values.u8_of (nth ws 9)) _ event kind.rest in
      subst Typed.IsEvent (same attempt.rest)
      (record {
        run = u32-typed (nth ws 2) run.value run.got;
        req = u32-typed (nth ws 3) req.value req.got;
        level = u8-typed (nth ws 5) level.value level.got;
        place = u8-typed (nth ws 6) place.value place.got;
        reg = u32-typed (nth ws 7) reg.value reg.got;
        attempt = u8-typed (nth ws 9) attempt.value attempt.got;
      })

  reply-typed : Entries.reply_of ws ≡ Ok event → Typed.IsEvent event
  reply-typed h =
      let req = succeeds (Values.u32_of (nth ws 2)) _ event h in
      let answer = succeeds (Values.answer_of (nth ws 3) (nth ws 4)) _ event req.rest in
      subst Typed.IsEvent (same answer.rest)
      (u32-typed (nth ws 2) req.value req.got, answer-typed (nth ws 3) (nth ws 4) answer.value answer.got)

  configured-typed : (verb : List ℕ) → Entries.configured_of verb ws ≡ Ok event → Typed.IsEvent event
  configured-typed verb h =
      go (bytes_eq verb (codes "device")) (bytes_eq verb (codes "gone")) (bytes_eq verb (codes "level"))
      (bytes_eq verb (codes "unlevel")) (bytes_eq verb (codes "agent")) h
    where
      go : (a b c d e : Bool) →
          cond a (Entries.device_of ws) (cond b (Entries.gone_of ws) (cond c (Entries.level_of ws) (cond d (Entries.level_gone_of ws) (cond e (Entries.agent_of ws) (Err EntryFault.Malformed))))) ≡ Ok event →
          Typed.IsEvent event
      go true b c d e k = device-typed k
      go false true c d e k = gone-typed k
      go false false true d e k = level-typed k
      go false false false true e k = level_gone-typed k
      go false false false false true k = agent-typed k
      go false false false false false k = absurd cc

  event-typed : (verb : List ℕ) → Entries.event_of verb ws ≡ Ok event → Typed.IsEvent event
  event-typed verb h =
      go (bytes_eq verb (codes "ask")) (bytes_eq verb (codes "exit")) (bytes_eq verb (codes "pass"))
      (bytes_eq verb (codes "confirm")) (bytes_eq verb (codes "refused"))
      (bytes_eq verb (codes "start")) (bytes_eq verb (codes "reply")) h
    where
      go : (a b c d e f g : Bool) →
          cond a (Entries.ask_of ws) (cond b (Entries.exited_of ws) (cond c (Ok Event.Pass) (cond d (Entries.confirm_of ws) (cond e (Entries.refused_of ws) (cond f (Entries.start_of ws)
          (cond g (Entries.reply_of ws) (Entries.configured_of verb ws))))))) ≡ Ok event →
          Typed.IsEvent event
      go true b c d e f g k = ask-typed k
      go false true c d e f g k = exited-typed k
      go false false true d e f g k = subst Typed.IsEvent (same k) tt
      go false false false true e f g k = confirm-typed k
      go false false false false true f g k = refused-typed k
      go false false false false false true g k = start-typed k
      go false false false false false false true k = reply-typed k
      go false false false false false false false k = configured-typed verb k

-- what the words of a line are read as has the types of an entry
pub entry-typed : (ws : List (List ℕ)) (e : Entry) → Entries.entry_of ws ≡ Ok e → Typed.IsTyped e
entry-typed ws e h =
    let moment = succeeds (Values.u64_of (nth ws 0)) _ e h in
    let event = succeeds (Entries.event_of (nth ws 1) ws) _ e moment.rest in
    subst Typed.IsTyped (same event.rest)
    (record { moment = u64-typed (nth ws 0) moment.value moment.got; event = event-typed ws event.value (nth ws 1) event.got })
