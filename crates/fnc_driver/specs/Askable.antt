-- Which requests the core may be asked.
use Rattle.std.specs.Prelude.{◌≡◌, ◌≤◌, true}
use Rattle.fnc_journal.specs.declared.entry.Scope.{Scope}
use Rattle.fnc_journal.specs.declared.limits.TheConstants.{DAY}
use Rattle.fnc_journal.specs.History.{History}
use Rattle.fnc_journal.specs.Lawful.{may_ask}
use Rattle.fnc_journal.specs.Levels.{is_in_place}
use Rattle.fnc_core.specs.declared.change.Ask.{Ask}

-- it is for on, off or reboot, has a time within a day, and its scope is in place
pub record IsAskable (a : Ask) (scope : Scope) (h : History) : Type 0 where
  pub kind : may_ask a.kind ≡ true
  pub some_time : 1 ≤ a.total
  pub most_time : a.total ≤ DAY
  pub in_place : is_in_place scope a.target h ≡ true
