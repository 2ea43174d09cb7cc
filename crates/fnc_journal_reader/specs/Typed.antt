-- What the types of an entry's fields hold: characters and numbers of so many bits. The bounds of its texts and of the
-- numbers of a definition stand beside this.
use Rattle.std.specs.Prelude.{ℕ, List, Bool, true, ◌&&◌, ◌<◌, ◌^◌, IsTrue, Option, Some, None}
use Rattle.std.specs.List.{list_all}
use Rattle.std.specs.Str.{is_utf8}
use Rattle.fnc_journal.specs.declared.definition.Base.{Base}
use Rattle.fnc_journal.specs.declared.definition.Definition.{Definition}
use Rattle.fnc_journal.specs.declared.definition.Delay.{Delay}
use Rattle.fnc_journal.specs.declared.definition.Parameter.{Parameter}
use Rattle.fnc_journal.specs.declared.definition.Registration.{Registration}
use Rattle.fnc_journal.specs.declared.entry.Answer.{Answer}
use Rattle.fnc_journal.specs.declared.entry.Entry.{Entry}
use Rattle.fnc_journal.specs.declared.event.Described.{Described}
use Rattle.fnc_journal.specs.declared.event.Event.{Event}
use Rattle.fnc_journal.specs.declared.event.Request.{Request}
use Rattle.fnc_journal.specs.declared.event.Start.{Start}
use Rattle.fnc_journal.specs.declared.entry.Exit.{Exit}
use Rattle.fnc_journal.specs.declared.entry.LevelTarget.{LevelTarget}
use Rattle.fnc_journal.specs.declared.entry.Scope.{Scope}
use Rattle.fnc_journal.specs.declared.names.Pair.{Pair}

-- bytes that are characters
abbrev pub are_characters : List ℕ → Bool
are_characters text = is_utf8 text

abbrev pub is_optional : Option (List ℕ) → Bool
is_optional None = true
is_optional (Some text) = are_characters text

abbrev pub is_pair : Pair → Bool
is_pair p = are_characters p.name && are_characters p.value

abbrev pub is_delay : Delay → Bool
is_delay d = are_characters d.name

abbrev pub is_base : Base → Bool
is_base (Base.Fixed ms) = true
is_base (Base.ByNode delays) = list_all is_delay delays

abbrev pub is_parameter : Parameter → Bool
is_parameter p = are_characters p.name

-- the texts of a definition
pub record IsDefinition (d : Definition) : Type 0 where
  pub hosts : IsTrue (list_all are_characters d.hosts)
  pub map : IsTrue (list_all is_pair d.map)
  pub argument : IsTrue (is_optional d.argument)
  pub base : IsTrue (is_base d.base)
  pub on : IsTrue (are_characters d.on.word)
  pub off : IsTrue (are_characters d.off.word)
  pub reboot : IsTrue (are_characters d.reboot.word)
  pub list : IsTrue (are_characters d.list.word)
  pub status : IsTrue (are_characters d.status.word)
  pub own : IsTrue (list_all is_pair d.own)

-- a device
pub record IsDevice (r : Registration) : Type 0 where
  pub name : IsTrue (are_characters r.name)
  pub agent : IsTrue (are_characters r.agent)
  pub definition : IsDefinition r.definition

-- what is told of an agent
pub record IsAgent (a : Described) : Type 0 where
  pub name : IsTrue (are_characters a.name)
  pub target : IsTrue (is_optional a.description.target)
  pub parameters : IsTrue (list_all is_parameter a.description.parameters)

-- numbers of 8, 32 and 64 bits
abbrev pub IsU8 : ℕ → Type 0
IsU8 n = n < 2 ^ 8

abbrev pub IsU32 : ℕ → Type 0
IsU32 n = n < 2 ^ 32

abbrev pub IsU64 : ℕ → Type 0
IsU64 n = n < 2 ^ 64

abbrev pub is_target : LevelTarget → Bool
is_target (LevelTarget.Name name) = are_characters name
is_target (LevelTarget.Pattern pattern) = are_characters pattern

abbrev pub IsScope : Scope → Type 0
IsScope (Scope.Pattern index) = IsU32 index
IsScope _ = Unit {0}

abbrev pub IsExit : Exit → Type 0
IsExit (Exit.Code code) = IsU8 code
IsExit _ = Unit {0}

abbrev pub IsAnswer : Answer → Type 0
IsAnswer (Answer.Passed level) = IsU8 level
IsAnswer _ = Unit {0}

-- a request
pub record IsRequest (r : Request) : Type 0 where
  pub req : IsU32 r.req.0
  pub lead : IsU32 r.lead.0
  pub client : IsTrue (are_characters r.client)
  pub target : IsTrue (are_characters r.target)
  pub total : IsU64 r.total
  pub coin : IsU64 r.coin
  pub scope : IsScope r.scope

-- the start of a run
pub record IsStart (s : Start) : Type 0 where
  pub run : IsU32 s.run.0
  pub req : IsU32 s.req.0
  pub level : IsU8 s.slot.level
  pub place : IsU8 s.slot.place
  pub reg : IsU32 s.reg.0
  pub attempt : IsU8 s.attempt

-- an event
abbrev pub IsEvent : Event → Type 0
IsEvent (Event.Device device) = IsU32 device.reg.0 × IsDevice device.registration
IsEvent (Event.Gone reg) = IsU32 reg.0
IsEvent (Event.Level level) = IsTrue (is_target level.target) × IsTrue (list_all are_characters level.devices)
IsEvent (Event.LevelGone level) = IsTrue (is_target level.target)
IsEvent (Event.Agent agent) = IsAgent agent
IsEvent (Event.Ask request) = IsRequest request
IsEvent (Event.Exit ended) = IsU32 ended.run.0 × IsExit ended.exit
IsEvent Event.Pass = Unit {0}
IsEvent (Event.Confirm confirmation) =
    IsTrue (are_characters confirmation.client) × IsTrue (are_characters confirmation.target)
IsEvent (Event.Refused refusal) = IsU32 refusal.line
IsEvent (Event.Start start) = IsStart start
IsEvent (Event.Reply reply) = IsU32 reply.req.0 × IsAnswer reply.answer

-- an entry
pub record IsTyped (e : Entry) : Type 0 where
  pub moment : IsU64 e.moment
  pub event : IsEvent e.event
