-- The spelling of an entry: the words of its line, one space between them. Texts are escaped, numbers are decimal
-- without leading zeros, and no part of a line can be left out or stand elsewhere.
use Rattle.std.specs.Prelude.{ℕ, List, [], ◌∷◌, ◌++◌, Bool, if◌then◌else◌, Option, Some, None, codes, decimal, map}
use Rattle.std.specs.Fmt.{signed_decimal}
use Rattle.std.specs.List.{flat_map}
use Rattle.fnc_journal.specs.declared.definition.Actions.{Actions}
use Rattle.fnc_journal.specs.declared.definition.Allowed.{Allowed}
use Rattle.fnc_journal.specs.declared.definition.Base.{Base}
use Rattle.fnc_journal.specs.declared.definition.Delay.{Delay}
use Rattle.fnc_journal.specs.declared.definition.HostCheck.{HostCheck}
use Rattle.fnc_journal.specs.declared.definition.Parameter.{Parameter}
use Rattle.fnc_journal.specs.declared.entry.Answer.{Answer}
use Rattle.fnc_journal.specs.declared.entry.Entry.{Entry}
use Rattle.fnc_journal.specs.declared.event.Confirmation.{Confirmation}
use Rattle.fnc_journal.specs.declared.event.Described.{Described}
use Rattle.fnc_journal.specs.declared.event.Ended.{Ended}
use Rattle.fnc_journal.specs.declared.event.Event.{Event}
use Rattle.fnc_journal.specs.declared.event.LevelCleared.{LevelCleared}
use Rattle.fnc_journal.specs.declared.event.LevelSet.{LevelSet}
use Rattle.fnc_journal.specs.declared.event.Refusal.{Refusal}
use Rattle.fnc_journal.specs.declared.event.Registered.{Registered}
use Rattle.fnc_journal.specs.declared.event.Reply.{Reply}
use Rattle.fnc_journal.specs.declared.event.Request.{Request}
use Rattle.fnc_journal.specs.declared.event.Start.{Start}
use Rattle.fnc_journal.specs.declared.entry.Exit.{Exit}
use Rattle.fnc_journal.specs.declared.entry.LevelTarget.{LevelTarget}
use Rattle.fnc_journal.specs.declared.entry.Phase.{Phase}
use Rattle.fnc_journal.specs.declared.entry.Reg.{Reg}
use Rattle.fnc_journal.specs.declared.entry.Scope.{Scope}
use Rattle.fnc_journal.specs.declared.names.Pair.{Pair}
use Rattle.fnc_journal.specs.Causes.{word_of}
use Rattle.fnc_journal.specs.Line.{escaped, kind_word}

-- items one after another: one text stands before the first, another before each that follows
abbrev pub listed : {X : Type 0} → List ℕ → List ℕ → (X → List ℕ) → List X → List ℕ
listed before between spell [] = []
listed before between spell (x ∷ xs) = (before ++ spell x) ++ listed between between spell xs

-- names separated by commas
abbrev pub names_text : List (List ℕ) → List ℕ
names_text names = listed [] (codes ",") escaped names

-- `NAME:PORT`
abbrev pub port_text : Pair → List ℕ
port_text p = escaped p.name ++ codes ":" ++ escaped p.value

-- hosts and their ports, separated by semicolons
abbrev pub map_text : List Pair → List ℕ
map_text pairs = listed [] (codes ";") port_text pairs

-- `NODE:MS`
abbrev pub delay_text : Delay → List ℕ
delay_text d = escaped d.name ++ codes ":" ++ decimal d.ms

-- nodes and their delays, separated by semicolons
abbrev pub delays_text : List Delay → List ℕ
delays_text delays = listed [] (codes ";") delay_text delays

-- milliseconds for all nodes, or node by node
abbrev pub base_text : Base → List ℕ
base_text (Base.Fixed ms) = decimal ms
base_text (Base.ByNode delays) = delays_text delays

-- a word where it holds, before others
abbrev pub chosen : Bool → List ℕ → List (List ℕ) → List (List ℕ)
chosen has word words = if has then word ∷ words else words

-- the actions that there are, in this order
abbrev pub actions_words : Actions → List (List ℕ)
actions_words a =
    chosen a.on (codes "on")
    (chosen a.off (codes "off")
    (chosen a.reboot (codes "reboot") (chosen a.list (codes "list") (chosen a.status (codes "status") []))))

-- they are separated by commas
abbrev pub actions_text : Actions → List ℕ
actions_text a = listed [] (codes ",") (λ word. word) (actions_words a)

-- how a device is asked whether it can fence a node
abbrev pub check_word : HostCheck → List ℕ
check_word HostCheck.DynamicList = codes "dynamic-list"
check_word HostCheck.StaticList = codes "static-list"
check_word HostCheck.Status = codes "status"
check_word HostCheck.Nothing = codes "none"

-- a text that need not be there
abbrev pub text_or_none : Option (List ℕ) → List ℕ
text_or_none None = []
text_or_none (Some text) = escaped text

-- a limit of runs, -1 for none
abbrev pub cap_text : Option ℕ → List ℕ
cap_text None = codes "-1"
cap_text (Some n) = decimal n

-- `WORD/MS/TRIES`
abbrev pub allowed_text : Allowed → List ℕ
allowed_text a = escaped a.word ++ codes "/" ++ decimal a.time ++ codes "/" ++ decimal a.tries

-- `o.NAME=VALUE`
abbrev pub own_word : Pair → List ℕ
own_word o = codes "o." ++ escaped o.name ++ codes "=" ++ escaped o.value

-- the words of a device: its number, its name, its agent, and what it can do for which nodes
abbrev pub nodes_words : Registered → List (List ℕ)
nodes_words device =
    codes "device"
    ∷ decimal device.reg.0
    ∷ escaped device.registration.name
    ∷ escaped device.registration.agent
    ∷ (codes "actions=" ++ actions_text device.registration.definition.actions)
    ∷ (codes "check=" ++ check_word device.registration.definition.check)
    ∷ (codes "hosts=" ++ names_text device.registration.definition.hosts)
    ∷ (codes "map=" ++ map_text device.registration.definition.map)
    ∷ (codes "argument=" ++ text_or_none device.registration.definition.argument)
    ∷ []

-- then its limits, its times, and its own options
abbrev pub limits_words : Registered → List (List ℕ)
limits_words device =
    (codes "limit=" ++ cap_text device.registration.definition.cap)
    ∷ (codes "priority=" ++ signed_decimal device.registration.definition.priority)
    ∷ (codes "delay=" ++ base_text device.registration.definition.base)
    ∷ (codes "max=" ++ decimal device.registration.definition.max)
    ∷ (codes "keep=" ++ decimal device.registration.definition.keep)
    ∷ (codes "on=" ++ allowed_text device.registration.definition.on)
    ∷ (codes "off=" ++ allowed_text device.registration.definition.off)
    ∷ (codes "reboot=" ++ allowed_text device.registration.definition.reboot)
    ∷ (codes "list=" ++ allowed_text device.registration.definition.list)
    ∷ (codes "status=" ++ allowed_text device.registration.definition.status)
    ∷ map own_word device.registration.definition.own

-- all of them
abbrev pub device_words : Registered → List (List ℕ)
device_words device = nodes_words device ++ limits_words device

-- `1` for yes, `0` for no
abbrev pub flag_text : Bool → List ℕ
flag_text holds = if holds then codes "1" else codes "0"

-- `p.NAME=1` for a parameter that must be given, `p.NAME=0` for any other
abbrev pub parameter_word : Parameter → List ℕ
parameter_word p = codes "p." ++ escaped p.name ++ codes "=" ++ flag_text p.required

-- whether a level is for a name or for a pattern
abbrev pub target_word : LevelTarget → List ℕ
target_word (LevelTarget.Name name) = codes "name"
target_word (LevelTarget.Pattern pattern) = codes "pattern"

-- that name or pattern
abbrev pub target_text : LevelTarget → List ℕ
target_text (LevelTarget.Name name) = name
target_text (LevelTarget.Pattern pattern) = pattern

-- which levels a request takes
abbrev pub scope_word : Scope → List ℕ
scope_word Scope.Nothing = codes "none"
scope_word Scope.Name = codes "name"
scope_word (Scope.Pattern index) = codes "pattern:" ++ decimal index

-- how a run ended
abbrev pub exit_word : Exit → List ℕ
exit_word (Exit.Code code) = decimal code
exit_word Exit.Signal = codes "signal"
exit_word Exit.NoStart = codes "no-start"
exit_word Exit.TooLong = codes "too-long"
exit_word Exit.NoMemory = codes "no-memory"

-- the part that a slot has in an operation
abbrev pub phase_word : Phase → List ℕ
phase_word Phase.Query = codes "query"
phase_word Phase.Act = codes "act"
phase_word Phase.Off = codes "off"
phase_word Phase.On = codes "on"

-- whether a request succeeded
abbrev pub answer_word : Answer → List ℕ
answer_word (Answer.Passed level) = codes "ok"
answer_word Answer.Confirmed = codes "ok"
answer_word Answer.Levels = codes "failed"
answer_word Answer.Time = codes "failed"
answer_word Answer.NoDevice = codes "failed"

-- the level that passed, or what stands in its place
abbrev pub answer_text : Answer → List ℕ
answer_text (Answer.Passed level) = decimal level
answer_text Answer.Confirmed = codes "confirmed"
answer_text Answer.Levels = codes "levels"
answer_text Answer.Time = codes "time"
answer_text Answer.NoDevice = codes "none"

-- a level and its devices
abbrev pub level_words : LevelSet → List (List ℕ)
level_words level =
    codes "level"
    ∷ decimal level.index
    ∷ target_word level.target
    ∷ escaped (target_text level.target)
    ∷ names_text level.devices
    ∷ []

-- a level that is gone
abbrev pub level_gone_words : LevelCleared → List (List ℕ)
level_gone_words level =
    codes "unlevel" ∷ decimal level.index ∷ target_word level.target ∷ escaped (target_text level.target) ∷ []

-- what is told of an agent
abbrev pub agent_words : Described → List (List ℕ)
agent_words agent =
    codes "agent"
    ∷ escaped agent.name
    ∷ (codes "actions=" ++ actions_text agent.description.actions)
    ∷ (codes "target=" ++ text_or_none agent.description.target)
    ∷ map parameter_word agent.description.parameters

-- how a run ended
abbrev pub exit_words : Ended → List (List ℕ)
exit_words ended = codes "exit" ∷ decimal ended.run.0 ∷ exit_word ended.exit ∷ flag_text ended.listed ∷ []

-- an operator confirms a node's state
abbrev pub confirm_words : Confirmation → List (List ℕ)
confirm_words confirmation = codes "confirm" ∷ escaped confirmation.client ∷ escaped confirmation.target ∷ []

-- why a line was refused
abbrev pub refused_words : Refusal → List (List ℕ)
refused_words refusal = codes "refused" ∷ decimal refusal.line ∷ word_of refusal.cause ∷ []

-- the start of a run
abbrev pub start_words : Start → List (List ℕ)
start_words start =
    codes "start"
    ∷ decimal start.run.0
    ∷ decimal start.req.0
    ∷ phase_word start.slot.phase
    ∷ decimal start.slot.level
    ∷ decimal start.slot.place
    ∷ decimal start.reg.0
    ∷ kind_word start.kind
    ∷ decimal start.attempt
    ∷ []

-- a request
abbrev pub ask_words : Request → List (List ℕ)
ask_words request =
    codes "ask"
    ∷ decimal request.req.0
    ∷ decimal request.lead.0
    ∷ escaped request.client
    ∷ kind_word request.kind
    ∷ escaped request.target
    ∷ decimal request.total
    ∷ decimal request.coin
    ∷ scope_word request.scope
    ∷ []

-- what a request is answered
abbrev pub reply_words : Reply → List (List ℕ)
reply_words reply = codes "reply" ∷ decimal reply.req.0 ∷ answer_word reply.answer ∷ answer_text reply.answer ∷ []

-- a registration that is gone
abbrev pub gone_words : Reg → List (List ℕ)
gone_words reg = codes "gone" ∷ decimal reg.0 ∷ []

-- the words after the moment
abbrev pub words_of : Event → List (List ℕ)
words_of (Event.Device device) = device_words device
words_of (Event.Gone reg) = gone_words reg
words_of (Event.Level level) = level_words level
words_of (Event.LevelGone level) = level_gone_words level
words_of (Event.Agent agent) = agent_words agent
words_of (Event.Ask request) = ask_words request
words_of (Event.Exit ended) = exit_words ended
words_of Event.Pass = codes "pass" ∷ []
words_of (Event.Confirm confirmation) = confirm_words confirmation
words_of (Event.Refused refusal) = refused_words refusal
words_of (Event.Start start) = start_words start
words_of (Event.Reply reply) = reply_words reply

-- words, a space before each
abbrev pub spaced : List (List ℕ) → List ℕ
spaced words = flat_map (λ (word : List ℕ). codes " " ++ word) words

-- the words of parameters, and those of own options
abbrev pub parameters_text : List Parameter → List ℕ
parameters_text parameters = spaced (map parameter_word parameters)

abbrev pub own_text : List Pair → List ℕ
own_text options = spaced (map own_word options)

-- the line of an entry, without its line feed
abbrev pub line_of : Entry → List ℕ
line_of e = decimal e.moment ++ spaced (words_of e.event)
