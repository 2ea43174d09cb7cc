-- What well-formed options define is within its bounds.
use Rattle.std.proofs.Common.{◌≡◌, ℕ, true, List, length, Result, Ok, Err, Option, Some, None, [], refl, subst, arith}
use Rattle.std.specs.Prelude.{IfOk, nat_le, codes}
use Rattle.std.specs.List.{list_all}
use Rattle.std.proofs.lemmas.Bool.{and_parts, le-leb, leb-true}
use Rattle.fnc_journal.specs.declared.limits.TheConstants.{LONGEST_VALUE, MOST_HOSTS, MOST_PARAMETERS}
use Rattle.fnc_journal.specs.declared.definition.Actions.{Actions}
use Rattle.fnc_journal.specs.declared.definition.Allowed.{Allowed}
use Rattle.fnc_journal.specs.declared.definition.Base.{Base}
use Rattle.fnc_journal.specs.declared.definition.Definition.{Definition}
use Rattle.fnc_journal.specs.declared.definition.Description.{Description}
use Rattle.fnc_journal.specs.declared.definition.HostCheck.{HostCheck}
use Rattle.fnc_journal.specs.declared.entry.Kind.{Kind}
use Rattle.fnc_journal.specs.declared.names.Pair.{Pair}
use Rattle.fnc_hosts.specs.Hosts.{host_list, host_map}
use Rattle.fnc_hosts.specs.Checks.{check_kind}
use Rattle.fnc_journal.specs.Bounds.{
  IsBounded,
  is_allowed,
  is_base,
  is_cap,
  is_carrier,
  is_host,
  is_host_pair,
  is_option_value,
  is_priority,
  is_time,
  is_value_byte,
}
use Rattle.fnc_journal.specs.EntryBounds.{is_described, is_parameter}
use Rattle.fnc_device.specs.declared.allowance.Allowances.{Allowances}
use Rattle.fnc_device.specs.declared.fault.DefineFault.{DefineFault}
use Rattle.fnc_device.specs.declared.nodes.Nodes.{Nodes}
use Rattle.fnc_device.specs.declared.schedule.Schedule.{Schedule}
use Rattle.fnc_device.specs.Steps.{◌>>=◌, Gives}
use Rattle.fnc_device.specs.Options.{is_option, right_options, value_of, own_options}
use Rattle.fnc_device.specs.Nodes.{hosts_of, map_of, written_check, nodes, argument}
use Rattle.fnc_device.specs.Times.{time}
use Rattle.fnc_device.specs.Schedules.{base_of, limit_of, priority_of, schedule}
use Rattle.fnc_device.specs.Allowances.{allowed, allowances}
use Rattle.fnc_device.specs.Definitions.{all_given, define}
use Rattle.fnc_device.proofs.Inversion.{bind_ok, same_Ok, or_fault_is}
use Rattle.fnc_device.proofs.HostBounds.{hosts_are, pairs_are}
use Rattle.fnc_device.proofs.OptionBounds.{options_are, value_is, own_are, own_few, carrier_is}
use Rattle.fnc_device.proofs.NumberBounds.{time_is, limit_is, priority_is, base_is, allowed_is}

pub record AreHosts (names : List (List ℕ)) : Type 0 where
  pub few : nat_le (length names) MOST_HOSTS ≡ true
  pub each : list_all is_host names ≡ true

pub record ArePairs (pairs : List Pair) : Type 0 where
  pub few : nat_le (length pairs) MOST_HOSTS ≡ true
  pub each : list_all is_host_pair pairs ≡ true

pub record IsSchedule (s : Schedule) : Type 0 where
  pub base : is_base s.base ≡ true
  pub max : is_time s.max ≡ true
  pub cap : is_cap s.cap ≡ true
  pub priority : is_priority s.priority ≡ true

pub record AreAllowances (a : Allowances) : Type 0 where
  pub on : is_allowed a.on ≡ true
  pub off : is_allowed a.off ≡ true
  pub reboot : is_allowed a.reboot ≡ true
  pub list : is_allowed a.list ≡ true
  pub status : is_allowed a.status ≡ true

hosts_of_is : (value : Option (List ℕ)) (names : List (List ℕ))
    → ((text : List ℕ) → value ≡ Some text → is_option_value text ≡ true) → hosts_of value ≡ Ok names → AreHosts names
hosts_of_is None names well h = subst AreHosts (same_Ok [] names h) (record { few = refl; each = refl })
hosts_of_is (Some text) names well h =
    let parts = and_parts (nat_le (length text) LONGEST_VALUE) (list_all is_value_byte text) (well text refl) in
    let all =
    hosts_are text names (leb-true _ _ parts.0) parts.1
    (or_fault_is DefineFault.BadHostList (host_list text) names h) in
    record { few = le-leb (length names) MOST_HOSTS all.0; each = all.1 }

map_of_is : (value : Option (List ℕ)) (pairs : List Pair)
    → ((text : List ℕ) → value ≡ Some text → is_option_value text ≡ true) → map_of value ≡ Ok pairs → ArePairs pairs
map_of_is None pairs well h = subst ArePairs (same_Ok [] pairs h) (record { few = refl; each = refl })
map_of_is (Some text) pairs well h =
    let parts = and_parts (nat_le (length text) LONGEST_VALUE) (list_all is_value_byte text) (well text refl) in
    let all =
    pairs_are text pairs (leb-true _ _ parts.0) parts.1
    (or_fault_is DefineFault.BadHostMap (host_map text) pairs h) in
    record { few = le-leb (length pairs) MOST_HOSTS all.0; each = all.1 }

module _ (options : List Pair) where
  abbrev said : List ℕ → Option (List ℕ)
  said name = value_of name options

  -- the steps of each part after its first ones
  abbrev with_written : Actions → List (List ℕ) → List Pair → Option HostCheck → Result Nodes DefineFault
  with_written actions hosts map written =
      Ok (record { hosts = hosts; map = map; check = check_kind written hosts map actions })

  abbrev with_map : Actions → List (List ℕ) → List Pair → Result Nodes DefineFault
  with_map actions hosts map =
      written_check (said (codes "pcmk_host_check")) >>= with_written actions hosts map

  abbrev with_hosts : Actions → List (List ℕ) → Result Nodes DefineFault
  with_hosts actions hosts = map_of (said (codes "pcmk_host_map")) >>= with_map actions hosts

  nodes_are : list_all is_option options ≡ true → (actions : Actions) (n : Nodes) → nodes options actions ≡ Ok n
      → AreHosts n.hosts × ArePairs n.map
  nodes_are formed actions n h =
      let well = λ (name text : List ℕ) (e : said name ≡ Some text). (value_is name options text formed e).0 in
      let hosts = bind_ok (hosts_of (said (codes "pcmk_host_list"))) (with_hosts actions) n h in
      let map = bind_ok (map_of (said (codes "pcmk_host_map"))) (with_map actions hosts.0) n hosts.2 in
      let written = bind_ok (written_check (said (codes "pcmk_host_check")))
      (with_written actions hosts.0 map.0) n map.2 in
      subst (λ (m : Nodes). AreHosts m.hosts × ArePairs m.map) (same_Ok _ n written.2) (
        hosts_of_is (said (codes "pcmk_host_list")) hosts.0 (well (codes "pcmk_host_list")) hosts.1,
        map_of_is (said (codes "pcmk_host_map")) map.0 (well (codes "pcmk_host_map")) map.1,
      )

  abbrev with_cap : Base → ℕ → Option ℕ → Result Schedule DefineFault
  with_cap base max cap =
      priority_of (said (codes "priority")) >>= λ priority.
      Ok (record { base = base; max = max; cap = cap; priority = priority })

  abbrev with_max : Base → ℕ → Result Schedule DefineFault
  with_max base max = limit_of (said (codes "pcmk_action_limit")) >>= with_cap base max

  abbrev with_base : Base → Result Schedule DefineFault
  with_base base = time (codes "pcmk_delay_max") 0 options >>= with_max base

  schedule_is : list_all is_option options ≡ true → (s : Schedule) → schedule options ≡ Ok s → IsSchedule s
  schedule_is formed s h =
      let well = λ (name text : List ℕ) (e : said name ≡ Some text). (value_is name options text formed e).0 in
      let base = bind_ok (base_of (said (codes "pcmk_delay_base"))) with_base s h in
      let max = bind_ok (time (codes "pcmk_delay_max") 0 options) (with_max base.0) s base.2 in
      let cap = bind_ok (limit_of (said (codes "pcmk_action_limit"))) (with_cap base.0 max.0) s max.2 in
      let priority = bind_ok (priority_of (said (codes "priority"))) (λ priority.
      Ok (record { base = base.0; max = max.0; cap = cap.0; priority = priority })) s cap.2 in
      let all : Schedule = record { base = base.0; max = max.0; cap = cap.0; priority = priority.0 } in
      subst IsSchedule {x = all} (same_Ok all s priority.2)
      (record {
        base = base_is (said (codes "pcmk_delay_base")) base.0 (well (codes "pcmk_delay_base")) base.1;
        max = time_is (codes "pcmk_delay_max") 0 (said (codes "pcmk_delay_max")) max.0 refl max.1;
        cap = limit_is (said (codes "pcmk_action_limit")) cap.0 cap.1;
        priority = priority_is (said (codes "priority")) priority.0 priority.1;
      })

  abbrev with_list : Allowed → Allowed → Allowed → Allowed → Result Allowances DefineFault
  with_list on off reboot list =
      allowed Kind.Status options >>= λ status.
      Ok (record { on = on; off = off; reboot = reboot; list = list; status = status })

  abbrev with_reboot : Allowed → Allowed → Allowed → Result Allowances DefineFault
  with_reboot on off reboot = allowed Kind.List options >>= with_list on off reboot

  abbrev with_off : Allowed → Allowed → Result Allowances DefineFault
  with_off on off = allowed Kind.Reboot options >>= with_reboot on off

  abbrev with_on : Allowed → Result Allowances DefineFault
  with_on on = allowed Kind.Off options >>= with_off on

  allowances_are : list_all is_option options ≡ true → (a : Allowances) → allowances options ≡ Ok a → AreAllowances a
  allowances_are formed a h =
      let on = bind_ok (allowed Kind.On options) with_on a h in
      let off = bind_ok (allowed Kind.Off options) (with_off on.0) a on.2 in
      let reboot = bind_ok (allowed Kind.Reboot options) (with_reboot on.0 off.0) a off.2 in
      let list = bind_ok (allowed Kind.List options) (with_list on.0 off.0 reboot.0) a reboot.2 in
      let status =
      bind_ok (allowed Kind.Status options) (λ status.
      Ok (record { on = on.0; off = off.0; reboot = reboot.0; list = list.0; status = status })) a list.2 in
      let all : Allowances = record { on = on.0; off = off.0; reboot = reboot.0; list = list.0; status = status.0 } in
      subst AreAllowances {x = all} (same_Ok all a status.2)
      (record {
        on = allowed_is Kind.On options on.0 formed on.1;
        off = allowed_is Kind.Off options off.0 formed off.1;
        reboot = allowed_is Kind.Reboot options reboot.0 formed reboot.1;
        list = allowed_is Kind.List options list.0 formed list.1;
        status = allowed_is Kind.Status options status.0 formed status.1;
      })

  module _ (description : Description) where
    abbrev carrier : Option (List ℕ)
    carrier = argument options description.target

    abbrev built : Nodes → Schedule → Allowances → ℕ → Definition
    built nodes schedule allowances keep = record {
      actions = description.actions;
      check = nodes.check;
      hosts = nodes.hosts;
      map = nodes.map;
      argument = carrier;
      cap = schedule.cap;
      priority = schedule.priority;
      base = schedule.base;
      max = schedule.max;
      keep = keep;
      on = allowances.on;
      off = allowances.off;
      reboot = allowances.reboot;
      list = allowances.list;
      status = allowances.status;
      own = own_options options;
    }

    abbrev with_keep : Nodes → Schedule → Allowances → ℕ → Result Definition DefineFault
    with_keep nodes schedule allowances keep =
        all_given options carrier description.parameters >>= λ given. Ok (built nodes schedule allowances keep)

    abbrev with_allowances : Nodes → Schedule → Allowances → Result Definition DefineFault
    with_allowances nodes schedule allowances =
        time (codes "pcmk_list_keep") 0 options >>= with_keep nodes schedule allowances

    abbrev with_schedule : Nodes → Schedule → Result Definition DefineFault
    with_schedule nodes schedule = allowances options >>= with_allowances nodes schedule

    abbrev with_nodes : Nodes → Result Definition DefineFault
    with_nodes nodes = schedule options >>= with_schedule nodes

    bounded : is_described description ≡ true → (d : Definition) → define options description ≡ Ok d → IsBounded d
    bounded fit d h =
        let told = and_parts _ (is_carrier description.target) fit in
        let few = and_parts _ (list_all is_parameter description.parameters) told.0 in
        let off =
        and_parts description.actions.off (nat_le (length description.parameters) MOST_PARAMETERS) few.0 in
        let right = bind_ok (right_options options) (λ formed. nodes options description.actions >>= with_nodes) d h in
        let named = bind_ok (nodes options description.actions) with_nodes d right.2 in
        let starts = bind_ok (schedule options) (with_schedule named.0) d named.2 in
        let actions = bind_ok (allowances options) (with_allowances named.0 starts.0) d starts.2 in
        let keep =
        bind_ok (time (codes "pcmk_list_keep") 0 options) (with_keep named.0 starts.0 actions.0) d actions.2 in
        let given = bind_ok (all_given options carrier description.parameters) (λ given.
        Ok (built named.0 starts.0 actions.0 keep.0)) d keep.2 in
        let formed = options_are options right.0 right.1 in
        let hosts = nodes_are formed.1 description.actions named.0 named.1 in
        let start = schedule_is formed.1 starts.0 starts.1 in
        let allow = allowances_are formed.1 actions.0 actions.1 in
        let whole : Definition = built named.0 starts.0 actions.0 keep.0 in
        subst IsBounded {x = whole} (same_Ok whole d given.2)
        (record {
          off = off.0;
          few_hosts = hosts.0.few;
          hosts = hosts.0.each;
          small_map = hosts.1.few;
          map = hosts.1.each;
          argument = carrier_is options description.target formed.1 told.1;
          cap = start.cap;
          priority = start.priority;
          base = start.base;
          max = start.max;
          keep = time_is (codes "pcmk_list_keep") 0 (said (codes "pcmk_list_keep")) keep.0 refl keep.1;
          on = allow.on;
          off_allowed = allow.off;
          reboot = allow.reboot;
          list = allow.list;
          status = allow.status;
          few_own = le-leb (length (own_options options)) 32 (omega (arith, own_few options, formed.0));
          own = own_are options formed.1;
        })

-- an answer that gives a definition gives a bounded one
pub IfOk-bounded : (options : List Pair) (description : Description) (answer : Result Definition DefineFault)
    → Gives answer (define options description) → is_described description ≡ true → IfOk answer IsBounded
IfOk-bounded options description (Ok d) h fit = bounded options description fit d h
IfOk-bounded options description (Err fault) h fit = tt
