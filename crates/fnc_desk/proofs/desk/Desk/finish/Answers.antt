use Rattle.std.proofs.Common.{◌≡◌, ◌∙◌, ap, arith}
use Rattle.fnc_journal.specs.Found.{started}
use Rattle.fnc_command.specs.declared.command.Mode.{Mode}
use Rattle.fnc_desk.specs.Called.{is_listed}
use Rattle.fnc_desk.specs.Desked.{Desked}
use Rattle.fnc_desk.specs.Inputs.{inputs}
use Rattle.fnc_desk.proofs.Numbering.{exit-uncounted}
use Rattle.fnc_desk.proofs.desk.Desk.finish.Goals as goal

pub invariant_of-self : goal.invariant_of-self
invariant_of-self c =
    let mode = c.self.inside.mode in
    let h = c.self.inside.fencer.history in
    let live : mode ≡ Mode.Live = ap (λ (d : Desked). d.mode) c.self.view_is ∙ c.requires.live in
    let uncounted : inputs mode c.finish.new.self.history ≡ inputs mode h =
    exit-uncounted mode c.self.inside.fencer c.finish.new.self c.args.moment
    (record {
      run = c.args.run;
      exit = c.args.exit;
      listed = is_listed (started c.args.run.0 h) c.args.output.now h;
    }) c.finish.result live c.finish.ensures.ok c.finish.ensures.err in
    (omega (arith, uncounted, c.self.invariant.0), c.self.invariant.1)
