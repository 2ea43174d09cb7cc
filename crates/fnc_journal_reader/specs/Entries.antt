-- What the words of a line are read as: the entry, where they are those of one.
use Rattle.std.specs.Prelude.{ℕ, List, if◌then◌else◌, Result, Ok, Err, bytes_eq, codes, drop}
use Rattle.fnc_journal.specs.declared.definition.Definition.{Definition}
use Rattle.fnc_journal.specs.declared.entry.Entry.{Entry}
use Rattle.fnc_journal.specs.declared.event.Event.{Event}
use Rattle.fnc_journal_reader.specs.declared.fault.EntryFault.{EntryFault}
use Rattle.fnc_journal_reader.specs.Cuts.{nth, parts, value}
use Rattle.fnc_journal_reader.specs.Reads.{◌>>=◌, each}
use Rattle.fnc_journal_reader.specs.Values.{u64_of, u32_of, u8_of, text_of, optional_of, flag_of, actions_of, check_of}
use Rattle.fnc_journal_reader.specs.Values.{kind_of, phase_of, exit_of, cause_of, scope_of, answer_of, target_of}
use Rattle.fnc_journal_reader.specs.Values.{cap_of, priority_of, pair_of, own_of, parameter_of, base_of, allowed_of}

-- the definition of a device
abbrev pub definition_of : List (List ℕ) → Result Definition EntryFault
definition_of ws =
    check_of (value ws 6) >>= λ check.
    each text_of (parts 44 (value ws 7)) >>= λ hosts.
    each (pair_of 58) (parts 59 (value ws 8)) >>= λ map.
    optional_of (value ws 9) >>= λ argument.
    cap_of (value ws 10) >>= λ cap.
    priority_of (value ws 11) >>= λ priority.
    base_of (value ws 12) >>= λ base.
    u64_of (value ws 13) >>= λ max.
    u64_of (value ws 14) >>= λ keep.
    allowed_of (value ws 15) >>= λ on.
    allowed_of (value ws 16) >>= λ off.
    allowed_of (value ws 17) >>= λ reboot.
    allowed_of (value ws 18) >>= λ list.
    allowed_of (value ws 19) >>= λ status.
    each own_of (drop 20 ws) >>= λ own.
    Ok (record {
      actions = actions_of (value ws 5);
      check = check;
      hosts = hosts;
      map = map;
      argument = argument;
      cap = cap;
      priority = priority;
      base = base;
      max = max;
      keep = keep;
      on = on;
      off = off;
      reboot = reboot;
      list = list;
      status = status;
      own = own;
    })

abbrev pub device_of : List (List ℕ) → Result Event EntryFault
device_of ws =
    u32_of (nth ws 2) >>= λ reg.
    text_of (nth ws 3) >>= λ name.
    text_of (nth ws 4) >>= λ agent.
    definition_of ws >>= λ definition.
    Ok (Event.Device (record {
      reg = record { 0 = reg };
      registration = record { name = name; agent = agent; definition = definition };
    }))

abbrev pub gone_of : List (List ℕ) → Result Event EntryFault
gone_of ws = u32_of (nth ws 2) >>= λ reg. Ok (Event.Gone (record { 0 = reg }))

abbrev pub level_of : List (List ℕ) → Result Event EntryFault
level_of ws =
    u8_of (nth ws 2) >>= λ index.
    target_of (nth ws 3) (nth ws 4) >>= λ target.
    each text_of (parts 44 (nth ws 5)) >>= λ devices.
    Ok (Event.Level (record { target = target; index = index; devices = devices }))

abbrev pub level_gone_of : List (List ℕ) → Result Event EntryFault
level_gone_of ws =
    u8_of (nth ws 2) >>= λ index.
    target_of (nth ws 3) (nth ws 4) >>= λ target.
    Ok (Event.LevelGone (record { target = target; index = index }))

abbrev pub agent_of : List (List ℕ) → Result Event EntryFault
agent_of ws =
    text_of (nth ws 2) >>= λ name.
    optional_of (value ws 4) >>= λ target.
    each parameter_of (drop 5 ws) >>= λ parameters.
    Ok (Event.Agent (record {
      name = name;
      description = record { actions = actions_of (value ws 3); parameters = parameters; target = target };
    }))

abbrev pub ask_of : List (List ℕ) → Result Event EntryFault
ask_of ws =
    u32_of (nth ws 2) >>= λ req.
    u32_of (nth ws 3) >>= λ lead.
    text_of (nth ws 4) >>= λ client.
    kind_of (nth ws 5) >>= λ kind.
    text_of (nth ws 6) >>= λ target.
    u64_of (nth ws 7) >>= λ total.
    u64_of (nth ws 8) >>= λ coin.
    scope_of (nth ws 9) >>= λ scope.
    Ok (Event.Ask (record {
      req = record { 0 = req };
      lead = record { 0 = lead };
      client = client;
      kind = kind;
      target = target;
      total = total;
      coin = coin;
      scope = scope;
    }))

abbrev pub exited_of : List (List ℕ) → Result Event EntryFault
exited_of ws =
    u32_of (nth ws 2) >>= λ run.
    exit_of (nth ws 3) >>= λ exit.
    Ok (Event.Exit (record { run = record { 0 = run }; exit = exit; listed = flag_of (nth ws 4) }))

abbrev pub confirm_of : List (List ℕ) → Result Event EntryFault
confirm_of ws =
    text_of (nth ws 2) >>= λ client.
    text_of (nth ws 3) >>= λ target.
    Ok (Event.Confirm (record { client = client; target = target }))

abbrev pub refused_of : List (List ℕ) → Result Event EntryFault
refused_of ws =
    u32_of (nth ws 2) >>= λ line.
    cause_of (nth ws 3) >>= λ cause.
    Ok (Event.Refused (record { line = line; cause = cause }))

abbrev pub start_of : List (List ℕ) → Result Event EntryFault
start_of ws =
    u32_of (nth ws 2) >>= λ run.
    u32_of (nth ws 3) >>= λ req.
    phase_of (nth ws 4) >>= λ phase.
    u8_of (nth ws 5) >>= λ level.
    u8_of (nth ws 6) >>= λ place.
    u32_of (nth ws 7) >>= λ reg.
    kind_of (nth ws 8) >>= λ kind.
    u8_of (nth ws 9) >>= λ attempt.
    Ok (Event.Start (record {
      run = record { 0 = run };
      req = record { 0 = req };
      slot = record { phase = phase; level = level; place = place };
      reg = record { 0 = reg };
      kind = kind;
      attempt = attempt;
    }))

abbrev pub reply_of : List (List ℕ) → Result Event EntryFault
reply_of ws =
    u32_of (nth ws 2) >>= λ req.
    answer_of (nth ws 3) (nth ws 4) >>= λ answer.
    Ok (Event.Reply (record { req = record { 0 = req }; answer = answer }))

-- an event that changes what is configured, by its verb
abbrev pub configured_of : List ℕ → List (List ℕ) → Result Event EntryFault
configured_of verb ws =
    if bytes_eq verb (codes "device") then device_of ws
    else (if bytes_eq verb (codes "gone") then gone_of ws
    else (if bytes_eq verb (codes "level") then level_of ws
    else (if bytes_eq verb (codes "unlevel") then level_gone_of ws
    else (if bytes_eq verb (codes "agent") then agent_of ws
    else Err EntryFault.Malformed))))

-- any event
abbrev pub event_of : List ℕ → List (List ℕ) → Result Event EntryFault
event_of verb ws =
    if bytes_eq verb (codes "ask") then ask_of ws
    else (if bytes_eq verb (codes "exit") then exited_of ws
    else (if bytes_eq verb (codes "pass") then Ok Event.Pass
    else (if bytes_eq verb (codes "confirm") then confirm_of ws
    else (if bytes_eq verb (codes "refused") then refused_of ws
    else (if bytes_eq verb (codes "start") then start_of ws
    else (if bytes_eq verb (codes "reply") then reply_of ws
    else configured_of verb ws))))))

-- the entry of a line of these words
abbrev pub entry_of : List (List ℕ) → Result Entry EntryFault
entry_of ws =
    u64_of (nth ws 0) >>= λ moment.
    event_of (nth ws 1) ws >>= λ event.
    Ok (record { moment = moment; event = event })
