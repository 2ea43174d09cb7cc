-- The time of an action is within its bounds.
use Rattle.std.proofs.Common.{◌≤◌, sym, subst}
use Rattle.fnc_journal.specs.declared.limits.TheConstants.{DAY}
use Rattle.fnc_journal.specs.declared.definition.Allowed.{Allowed}
use Rattle.fnc_core.proofs.Bounds.{allowed-short}
use Rattle.fnc_core.proofs.limits.time_of.Goals as goal

pub returns-in-Some-clause-short : goal.returns-in-Some-clause-short
returns-in-Some-clause-short c =
    subst (λ (a : Allowed). a.time ≤ DAY) (sym c.allowed.ensures)
    (allowed-short c.in-Some.registration.now.definition c.args.kind
    (c.requires c.args.reg.0 c.in-Some.registration.now (sym c.in-Some.ensures)))
