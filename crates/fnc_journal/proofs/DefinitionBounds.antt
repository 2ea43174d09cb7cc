-- The bounds of a definition, as a test and as facts by name, are the same.
use Rattle.std.proofs.Common.{true, ◌≡◌, length}
use Rattle.std.specs.Prelude.{nat_le}
use Rattle.std.specs.List.{list_all}
use Rattle.std.proofs.lemmas.Bool.{and_from, and_parts}
use Rattle.fnc_journal.specs.declared.definition.Definition.{Definition}
use Rattle.fnc_journal.specs.declared.limits.TheConstants.{MOST_HOSTS, MOST_OPTIONS}
use Rattle.fnc_journal.specs.Bounds.{
  IsBounded,
  is_allowed,
  is_base,
  is_cap,
  is_carrier,
  is_host,
  is_host_pair,
  is_own_option,
  is_priority,
  is_time,
}
use Rattle.fnc_journal.specs.EntryBounds.{is_bounded, are_nodes, are_limits, are_allowed}

-- a definition that passes the test has each bound
pub is-bounded : (d : Definition) → is_bounded d ≡ true → IsBounded d
is-bounded d b =
    let parts = and_parts _ (are_allowed d) b in
    let front = and_parts (are_nodes d) (are_limits d) parts.0 in
    let n5 = and_parts _ (is_carrier d.argument) front.0 in
    let n4 = and_parts _ (list_all is_host_pair d.map) n5.0 in
    let n3 = and_parts _ (nat_le (length d.map) MOST_HOSTS) n4.0 in
    let n2 = and_parts _ (list_all is_host d.hosts) n3.0 in
    let n1 = and_parts d.actions.off (nat_le (length d.hosts) MOST_HOSTS) n2.0 in
    let l6 = and_parts _ (list_all is_own_option d.own) front.1 in
    let l5 = and_parts _ (nat_le (length d.own) MOST_OPTIONS) l6.0 in
    let l4 = and_parts _ (is_time d.keep) l5.0 in
    let l3 = and_parts _ (is_time d.max) l4.0 in
    let l2 = and_parts _ (is_base d.base) l3.0 in
    let l1 = and_parts (is_cap d.cap) (is_priority d.priority) l2.0 in
    let a4 = and_parts _ (is_allowed d.status) parts.1 in
    let a3 = and_parts _ (is_allowed d.list) a4.0 in
    let a2 = and_parts _ (is_allowed d.reboot) a3.0 in
    let a1 = and_parts (is_allowed d.on) (is_allowed d.off) a2.0 in
    record {
      off = n1.0;
      few_hosts = n1.1;
      hosts = n2.1;
      small_map = n3.1;
      map = n4.1;
      argument = n5.1;
      cap = l1.0;
      priority = l1.1;
      base = l2.1;
      max = l3.1;
      keep = l4.1;
      on = a1.0;
      off_allowed = a1.1;
      reboot = a2.1;
      list = a3.1;
      status = a4.1;
      few_own = l5.1;
      own = l6.1;
    }

nodes-are : (d : Definition) → IsBounded d → are_nodes d ≡ true
nodes-are d b =
    and_from _ _ (and_from _ _ (and_from _ _ (and_from _ _ (and_from _ _ b.off b.few_hosts) b.hosts) b.small_map) b.map)
    b.argument

limits-are : (d : Definition) → IsBounded d → are_limits d ≡ true
limits-are d b =
    and_from _ _ (and_from _ _ (and_from _ _ (and_from _ _ (and_from _ _ (and_from _ _ b.cap b.priority) b.base) b.max)
    b.keep) b.few_own) b.own

allowed-are : (d : Definition) → IsBounded d → are_allowed d ≡ true
allowed-are d b =
    and_from _ _ (and_from _ _ (and_from _ _ (and_from _ _ b.on b.off_allowed) b.reboot) b.list) b.status

-- a definition that has each bound passes the test
pub bounded-is : (d : Definition) → IsBounded d → is_bounded d ≡ true
bounded-is d b = and_from _ _ (and_from _ _ (nodes-are d b) (limits-are d b)) (allowed-are d b)
