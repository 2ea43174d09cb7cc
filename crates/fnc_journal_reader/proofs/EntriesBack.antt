-- Each entry within the bounds is read back from its line.
use Rattle.std.proofs.Common.{◌≡◌, ◌<◌, ◌≤◌, ◌^◌, ℕ, List, [], ◌∷◌, Bool, true, length, map, decimal, Ok, refl, ap}
use Rattle.std.proofs.Common.{◌∙◌, arith}
use Rattle.std.specs.Prelude.{nat_lt, nat_le}
use Rattle.std.specs.List.{list_all}
use Rattle.std.proofs.lemmas.Bool.{and_parts, leb-true}
use Rattle.fnc_journal.specs.declared.definition.Actions.{Actions}
use Rattle.fnc_journal.specs.declared.definition.Definition.{Definition}
use Rattle.fnc_journal.specs.declared.definition.Registration.{Registration}
use Rattle.fnc_journal.specs.declared.limits.TheConstants.{
  LONGEST_NAME,
  MOST_DEVICES_OF_LEVEL,
  MOST_HOSTS,
  MOST_LEVELS_OF_TARGET,
  MOST_OPTIONS,
}
use Rattle.fnc_journal.specs.declared.entry.Entry.{Entry}
use Rattle.fnc_journal.specs.declared.event.Event.{Event}
use Rattle.fnc_journal.specs.declared.event.Registered.{Registered}
use Rattle.fnc_journal.specs.declared.entry.LevelTarget.{LevelTarget}
use Rattle.fnc_journal.specs.Line.{escaped}
use Rattle.fnc_journal.specs.Names.{is_name}
use Rattle.fnc_journal.specs.Bounds as Bounds
use Rattle.fnc_journal.specs.EntryBounds as EntryBounds
use Rattle.fnc_journal_reader.specs.Cuts.{nth, words}
use Rattle.fnc_journal_reader.specs.Entries.{entry_of, event_of, definition_of}
use Rattle.fnc_journal_text.specs.Spelled as Spelled
use Rattle.fnc_journal_text.specs.Spelled.{line_of, words_of}
use Rattle.fnc_journal_reader.specs.Typed as Typed
use Rattle.fnc_journal_reader.proofs.Spellings.{has_byte, lacks, some-has}
use Rattle.fnc_journal_reader.proofs.Splits.{is_part, words-back}
use Rattle.fnc_journal_reader.proofs.ValuesBack.{step, u64-back, u32-back, u8-back, text-back, text-part, number-part}
use Rattle.fnc_journal_reader.proofs.ValuesBack.{optional-back, optional-lacks, kind-back, kind-part, phase-back}
use Rattle.fnc_journal_reader.proofs.ValuesBack.{phase-part, check-back, check-lacks, flag-back, flag-part, exit-back}
use Rattle.fnc_journal_reader.proofs.ValuesBack.{exit-part, scope-back, scope-part, answer-back, answer-part}
use Rattle.fnc_journal_reader.proofs.ValuesBack.{answered-part, target-back, target-part, cap-back, cap-lacks}
use Rattle.fnc_journal_reader.proofs.ValuesBack.{priority-back, priority-lacks, cause-back, cause-part, actions-back}
use Rattle.fnc_journal_reader.proofs.ValuesBack.{actions-lack}
use Rattle.fnc_journal_reader.proofs.ListsBack.{name-has, names-back, names-lack, names-has, hosts-back, map-back}
use Rattle.fnc_journal_reader.proofs.ListsBack.{map-lacks, own-part, owns-back, parameter-part, parameters-back}
use Rattle.fnc_journal_reader.proofs.ListsBack.{base-back, base-lacks, time-back, time-lacks, allowed-back}
use Rattle.fnc_journal_reader.proofs.ListsBack.{allowed-lacks}

-- words that are told apart
abbrev AreApart : List (List ℕ) → Type 0
AreApart [] = Unit {0}
AreApart (w ∷ ws) = (is_part 32 w ≡ true) × AreApart ws

with : {P Q : Type 0} → P → Q → P × Q
with p q = (p, q)

told_apart : (ws : List (List ℕ)) → AreApart ws → list_all (is_part 32) ws ≡ true
told_apart [] h = refl
told_apart (w ∷ ws) h = rw (h.0, told_apart ws h.1) refl

each-part : {X : Type 0} (word : X → List ℕ) (p : X → Bool) → ((x : X) → p x ≡ true → is_part 32 (word x) ≡ true) →
    (xs : List X) → list_all p xs ≡ true → AreApart (map word xs)
each-part word p f [] h = tt
each-part word p f (x ∷ xs) h = let two = and_parts (p x) (list_all p xs) h in (f x two.0, each-part word p f xs two.1)

u32-part : (n : ℕ) → n < 2 ^ 32 → is_part 32 (decimal n) ≡ true
u32-part n h = number-part 32 n refl (omega (arith, h))

u8-part : (n : ℕ) → n < 2 ^ 8 → is_part 32 (decimal n) ≡ true
u8-part n h = number-part 32 n refl (omega (arith, h))

name-part : (name : List ℕ) → is_name name ≡ true → Typed.are_characters name ≡ true → is_part 32 (escaped name) ≡ true
name-part name b t = text-part 32 name refl (name-has name b) t

target-has : (t : LevelTarget) → EntryBounds.is_target t ≡ true → has_byte (Spelled.target_text t) ≡ true
target-has (LevelTarget.Name name) b = name-has name b
target-has (LevelTarget.Pattern pattern) b =
    some-has pattern (and_parts (nat_lt 0 (length pattern)) (nat_le (length pattern) LONGEST_NAME) b).0

target-characters : (t : LevelTarget) → Typed.is_target t ≡ true → Typed.are_characters (Spelled.target_text t) ≡ true
target-characters (LevelTarget.Name name) t = t
target-characters (LevelTarget.Pattern pattern) t = t

targeted-part : (t : LevelTarget) → EntryBounds.is_target t ≡ true → Typed.is_target t ≡ true →
    is_part 32 (escaped (Spelled.target_text t)) ≡ true
targeted-part t b k = text-part 32 (Spelled.target_text t) refl (target-has t b) (target-characters t k)

index-fits : (index : ℕ) → EntryBounds.is_index index ≡ true → index < 2 ^ 8
index-fits index b =
    let most = MOST_LEVELS_OF_TARGET in
    let small : index ≤ 9 = leb-true index most (and_parts (nat_lt 0 index) (nat_le index most) b).1 in
    omega (arith, small)

-- a definition
record AreNodes (d : Definition) : Type 0 where
  hosts : list_all Bounds.is_host d.hosts ≡ true
  argument : Bounds.is_carrier d.argument ≡ true

are_nodes : (d : Definition) → EntryBounds.are_nodes d ≡ true → AreNodes d
are_nodes d b =
    let five = and_parts _ (Bounds.is_carrier d.argument) b in
    let four = and_parts _ (list_all Bounds.is_host_pair d.map) five.0 in
    let three = and_parts _ (nat_le (length d.map) MOST_HOSTS) four.0 in
    let two = and_parts _ (list_all Bounds.is_host d.hosts) three.0 in
    record { hosts = two.1; argument = five.1 }

record AreLimits (d : Definition) : Type 0 where
  cap : Bounds.is_cap d.cap ≡ true
  priority : Bounds.is_priority d.priority ≡ true
  base : Bounds.is_base d.base ≡ true
  max : Bounds.is_time d.max ≡ true
  keep : Bounds.is_time d.keep ≡ true

are_limits : (d : Definition) → EntryBounds.are_limits d ≡ true → AreLimits d
are_limits d b =
    let six = and_parts _ (list_all Bounds.is_own_option d.own) b in
    let five = and_parts _ (nat_le (length d.own) MOST_OPTIONS) six.0 in
    let four = and_parts _ (Bounds.is_time d.keep) five.0 in
    let three = and_parts _ (Bounds.is_time d.max) four.0 in
    let two = and_parts _ (Bounds.is_base d.base) three.0 in
    let one = and_parts (Bounds.is_cap d.cap) (Bounds.is_priority d.priority) two.0 in
    record { cap = one.0; priority = one.1; base = two.1; max = three.1; keep = four.1 }

record AreAllowed (d : Definition) : Type 0 where
  on : Bounds.is_allowed d.on ≡ true
  off : Bounds.is_allowed d.off ≡ true
  reboot : Bounds.is_allowed d.reboot ≡ true
  list : Bounds.is_allowed d.list ≡ true
  status : Bounds.is_allowed d.status ≡ true

are_allowed : (d : Definition) → EntryBounds.are_allowed d ≡ true → AreAllowed d
are_allowed d b =
    let four = and_parts _ (Bounds.is_allowed d.status) b in
    let three = and_parts _ (Bounds.is_allowed d.list) four.0 in
    let two = and_parts _ (Bounds.is_allowed d.reboot) three.0 in
    let one = and_parts (Bounds.is_allowed d.on) (Bounds.is_allowed d.off) two.0 in
    record { on = one.0; off = one.1; reboot = two.1; list = three.1; status = four.1 }

record AreBounds (d : Definition) : Type 0 where
  nodes : AreNodes d
  limits : AreLimits d
  allowed : AreAllowed d

are_bounds : (d : Definition) → EntryBounds.is_bounded d ≡ true → AreBounds d
are_bounds d b =
    let two = and_parts _ (EntryBounds.are_allowed d) b in
    let one = and_parts (EntryBounds.are_nodes d) (EntryBounds.are_limits d) two.0 in
    record { nodes = are_nodes d one.0; limits = are_limits d one.1; allowed = are_allowed d two.1 }

actions-lacking : (a : Actions) → lacks 32 (Spelled.actions_text a) ≡ true
actions-lacking a = actions-lack a.on a.off a.reboot a.list a.status

limits-part : (device : Registered) → AreBounds device.registration.definition →
    Typed.IsDefinition device.registration.definition → AreApart (Spelled.limits_words device)
limits-part device b t =
    let d = device.registration.definition in
    with (cap-lacks d.cap b.limits.cap)
    (with (priority-lacks d.priority b.limits.priority)
    (with (base-lacks d.base b.limits.base t.base)
    (with (time-lacks d.max b.limits.max)
    (with (time-lacks d.keep b.limits.keep)
    (with (allowed-lacks d.on b.allowed.on t.on)
    (with (allowed-lacks d.off b.allowed.off t.off)
    (with (allowed-lacks d.reboot b.allowed.reboot t.reboot)
    (with (allowed-lacks d.list b.allowed.list t.list)
    (with (allowed-lacks d.status b.allowed.status t.status)
    (each-part Spelled.own_word Typed.is_pair own-part d.own t.own))))))))))

-- the words of a device
record IsBoundedDevice (r : Registration) : Type 0 where
  name : is_name r.name ≡ true
  agent : is_name r.agent ≡ true
  definition : AreBounds r.definition

is_bounded : (r : Registration) → EntryBounds.is_device r ≡ true → IsBoundedDevice r
is_bounded r b =
    let two = and_parts _ (EntryBounds.is_bounded r.definition) b in
    let one = and_parts (is_name r.name) (EntryBounds.is_agent_name r.agent) two.0 in
    let agent = and_parts (is_name r.agent) _ one.1 in
    record { name = one.0; agent = agent.0; definition = are_bounds r.definition two.1 }

device-part : (device : Registered) → device.reg.0 < 2 ^ 32 → IsBoundedDevice device.registration →
    Typed.IsDevice device.registration → AreApart (Spelled.device_words device)
device-part device h b t =
    let r = device.registration in
    let d = r.definition in
    with refl
    (with (u32-part device.reg.0 h)
    (with (name-part r.name b.name t.name)
    (with (name-part r.agent b.agent t.agent)
    (with (actions-lacking d.actions)
    (with (check-lacks d.check)
    (with (names-lack d.hosts t.definition.hosts)
    (with (map-lacks d.map t.definition.map)
    (with (optional-lacks 32 d.argument refl t.definition.argument)
    (limits-part device b.definition t.definition)))))))))

definition-back : (m : List ℕ) (device : Registered) → AreBounds device.registration.definition →
    Typed.IsDefinition device.registration.definition →
    definition_of (m ∷ Spelled.device_words device) ≡ Ok device.registration.definition
definition-back m device b t =
    let d = device.registration.definition in
    step _ d.check _ _ (check-back d.check)
    (step _ d.hosts _ _ (hosts-back d.hosts b.nodes.hosts t.hosts)
    (step _ d.map _ _ (map-back d.map t.map)
    (step _ d.argument _ _ (optional-back d.argument b.nodes.argument t.argument)
    (step _ d.cap _ _ (cap-back d.cap b.limits.cap)
    (step _ d.priority _ _ (priority-back d.priority b.limits.priority)
    (step _ d.base _ _ (base-back d.base b.limits.base t.base)
    (step _ d.max _ _ (time-back d.max b.limits.max)
    (step _ d.keep _ _ (time-back d.keep b.limits.keep)
    (step _ d.on _ _ (allowed-back d.on b.allowed.on t.on)
    (step _ d.off _ _ (allowed-back d.off b.allowed.off t.off)
    (step _ d.reboot _ _ (allowed-back d.reboot b.allowed.reboot t.reboot)
    (step _ d.list _ _ (allowed-back d.list b.allowed.list t.list)
    (step _ d.status _ _ (allowed-back d.status b.allowed.status t.status)
    (step _ d.own _ _ (owns-back d.own t.own)
    (ap (λ (actions : Actions).
    Ok (record {
      actions = actions;
      check = d.check;
      hosts = d.hosts;
      map = d.map;
      argument = d.argument;
      cap = d.cap;
      priority = d.priority;
      base = d.base;
      max = d.max;
      keep = d.keep;
      on = d.on;
      off = d.off;
      reboot = d.reboot;
      list = d.list;
      status = d.status;
      own = d.own;
    }))
    (actions-back d.actions.on d.actions.off d.actions.reboot d.actions.list d.actions.status))))))))))))))))

-- an event of a line that begins with a moment
record IsBack (m : List ℕ) (event : Event) : Type 0 where
  apart : AreApart (words_of event)
  read : event_of (nth (m ∷ words_of event) 1) (m ∷ words_of event) ≡ Ok event

event-back : (m : List ℕ) (event : Event) → Typed.IsEvent event → EntryBounds.is_event event ≡ true → IsBack m event
event-back m (Event.Device device) t b =
    let r = device.registration in
    let bounds = is_bounded r b in
    record {
      apart = device-part device t.0 bounds t.1;
      read =
          step _ device.reg.0 _ _ (u32-back device.reg.0 t.0)
          (step _ r.name _ _ (text-back r.name t.1.name)
          (step _ r.agent _ _ (text-back r.agent t.1.agent)
          (step _ r.definition _ _ (definition-back m device bounds.definition t.1.definition) refl)));
    }
event-back m (Event.Gone reg) t b =
    record {
      apart = with refl (with (u32-part reg.0 t) tt);
      read = step _ reg.0 _ _ (u32-back reg.0 t) refl;
    }
event-back m (Event.Level level) t b =
    let four = and_parts _ (list_all is_name level.devices) b in
    let three = and_parts _ (nat_le (length level.devices) MOST_DEVICES_OF_LEVEL) four.0 in
    let two = and_parts _ (nat_lt 0 (length level.devices)) three.0 in
    let one = and_parts (EntryBounds.is_index level.index) (EntryBounds.is_target level.target) two.0 in
    let fits = index-fits level.index one.0 in
    record {
      apart =
          with refl
          (with (u8-part level.index fits)
          (with (target-part level.target)
          (with (targeted-part level.target one.1 t.0)
          (with (rw (names-has level.devices two.1 four.1, names-lack level.devices t.1) refl) tt))));
      read =
          step _ level.index _ _ (u8-back level.index fits)
          (step _ level.target _ _ (target-back level.target t.0)
          (step _ level.devices _ _ (names-back level.devices four.1 t.1) refl));
    }
event-back m (Event.LevelGone level) t b =
    let one = and_parts (EntryBounds.is_index level.index) (EntryBounds.is_target level.target) b in
    let fits = index-fits level.index one.0 in
    record {
      apart =
          with refl
          (with (u8-part level.index fits)
          (with (target-part level.target) (with (targeted-part level.target one.1 t) tt)));
      read =
          step _ level.index _ _ (u8-back level.index fits)
          (step _ level.target _ _ (target-back level.target t) refl);
    }
event-back m (Event.Agent agent) t b =
    let d = agent.description in
    let one = and_parts (EntryBounds.is_agent_name agent.name) (EntryBounds.is_described d) b in
    let carrier = (and_parts _ (Bounds.is_carrier d.target) one.1).1 in
    record {
      apart =
          with refl
          (with (name-part agent.name (and_parts (is_name agent.name) _ one.0).0 t.name)
          (with (actions-lacking d.actions)
          (with (optional-lacks 32 d.target refl t.target)
          (each-part Spelled.parameter_word Typed.is_parameter parameter-part d.parameters t.parameters))));
      read =
          step _ agent.name _ _ (text-back agent.name t.name)
          (step _ d.target _ _ (optional-back d.target carrier t.target)
          (step _ d.parameters _ _ (parameters-back d.parameters t.parameters)
          (ap (λ (actions : Actions).
          Ok (Event.Agent (record {
            name = agent.name;
            description = record { actions = actions; parameters = d.parameters; target = d.target };
          })))
          (actions-back d.actions.on d.actions.off d.actions.reboot d.actions.list d.actions.status))));
    }
event-back m (Event.Ask request) t b =
    let names = and_parts (is_name request.client) (is_name request.target) b in
    record {
      apart =
          with refl
          (with (u32-part request.req.0 t.req)
          (with (u32-part request.lead.0 t.lead)
          (with (name-part request.client names.0 t.client)
          (with (kind-part request.kind)
          (with (name-part request.target names.1 t.target)
          (with (number-part 32 request.total refl t.total)
          (with (number-part 32 request.coin refl t.coin)
          (with (scope-part request.scope t.scope) tt))))))));
      read =
          step _ request.req.0 _ _ (u32-back request.req.0 t.req)
          (step _ request.lead.0 _ _ (u32-back request.lead.0 t.lead)
          (step _ request.client _ _ (text-back request.client t.client)
          (step _ request.kind _ _ (kind-back request.kind)
          (step _ request.target _ _ (text-back request.target t.target)
          (step _ request.total _ _ (u64-back request.total t.total)
          (step _ request.coin _ _ (u64-back request.coin t.coin)
          (step _ request.scope _ _ (scope-back request.scope t.scope) refl)))))));
    }
event-back m (Event.Exit ended) t b =
    record {
      apart =
          with refl
          (with (u32-part ended.run.0 t.0) (with (exit-part ended.exit t.1) (with (flag-part ended.listed) tt)));
      read =
          step _ ended.run.0 _ _ (u32-back ended.run.0 t.0)
          (step _ ended.exit _ _ (exit-back ended.exit t.1)
          (ap (λ (flag : Bool). Ok (Event.Exit (record { run = ended.run; exit = ended.exit; listed = flag })))
          (flag-back ended.listed)));
    }
event-back m Event.Pass t b = record { apart = (refl, tt); read = refl }
event-back m (Event.Confirm confirmation) t b =
    let client = confirmation.client in
    let target = confirmation.target in
    let names = and_parts (is_name client) (is_name target) b in
    record {
      apart = with refl (with (name-part client names.0 t.0) (with (name-part target names.1 t.1) tt));
      read = step _ client _ _ (text-back client t.0) (step _ target _ _ (text-back target t.1) refl);
    }
event-back m (Event.Refused refusal) t b =
    record {
      apart = with refl (with (u32-part refusal.line t) (with (cause-part refusal.cause) tt));
      read =
          step _ refusal.line _ _ (u32-back refusal.line t)
          (step _ refusal.cause _ _ (cause-back refusal.cause) refl);
    }
event-back m (Event.Start start) t b =
    record {
      apart =
          with refl
          (with (u32-part start.run.0 t.run)
          (with (u32-part start.req.0 t.req)
          (with (phase-part start.slot.phase)
          (with (u8-part start.slot.level t.level)
          (with (u8-part start.slot.place t.place)
          (with (u32-part start.reg.0 t.reg)
          (with (kind-part start.kind)
          (with (u8-part start.attempt t.attempt) tt))))))));
      read =
          step _ start.run.0 _ _ (u32-back start.run.0 t.run)
          (step _ start.req.0 _ _ (u32-back start.req.0 t.req)
          (step _ start.slot.phase _ _ (phase-back start.slot.phase)
          (step _ start.slot.level _ _ (u8-back start.slot.level t.level)
          (step _ start.slot.place _ _ (u8-back start.slot.place t.place)
          (step _ start.reg.0 _ _ (u32-back start.reg.0 t.reg)
          (step _ start.kind _ _ (kind-back start.kind)
          (step _ start.attempt _ _ (u8-back start.attempt t.attempt) refl)))))));
    }
event-back m (Event.Reply reply) t b =
    record {
      apart =
          with refl
          (with (u32-part reply.req.0 t.0)
          (with (answer-part reply.answer) (with (answered-part reply.answer t.1) tt)));
      read =
          step _ reply.req.0 _ _ (u32-back reply.req.0 t.0)
          (step _ reply.answer _ _ (answer-back reply.answer t.1) refl);
    }

-- what the line of an entry is read as
pub entry-back : (e : Entry) → Typed.IsTyped e → EntryBounds.is_within e ≡ true → entry_of (words (line_of e)) ≡ Ok e
entry-back e t b =
    let back = event-back (decimal e.moment) e.event t.event b in
    let moment = number-part 32 e.moment refl t.moment in
    let apart = told_apart (words_of e.event) back.apart in
    ap entry_of (words-back (decimal e.moment) (words_of e.event) moment apart)
    ∙ step _ e.moment _ _ (u64-back e.moment t.moment) (step _ e.event _ _ back.read refl)
