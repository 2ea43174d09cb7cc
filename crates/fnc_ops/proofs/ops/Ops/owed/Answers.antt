-- What the records owe is what the journal owes.
use Rattle.std.proofs.Common.{◌≡◌, ◌∙◌, arith}
use Rattle.fnc_journal.specs.Owed as Owed
use Rattle.fnc_ops.specs.OpsRecords.{owed}
use Rattle.fnc_ops.proofs.Owes.{owes-is}
use Rattle.fnc_ops.proofs.ops.Ops.owed.Goals as goal

pub returns : goal.returns
returns c h stands few =
    let same : owed c.args.self.now ≡ Owed.owed h = owes-is c.args.self.now h stands in
    c.kept_owed.ensures (omega (arith, same, few)) ∙ same
