use Rattle.std.proofs.Common.{Option, [], ap, ◌∙◌}
use Rattle.std.specs.Prelude.{option_map, unwrap_or}
use Rattle.fnc_journal.specs.declared.event.Request.{Request}
use Rattle.fnc_desk.proofs.Lines.{target_found}
use Rattle.fnc_desk.proofs.output.target_of.Goals as goal

pub returns-in-Some : goal.returns-in-Some
returns-in-Some c =
    c.as_str.ensures
    ∙ ap (λ (x : Option Request). unwrap_or (option_map (λ (q : Request). q.target) x) []) c.in-Some.ensures
    ∙ target_found c.args.journal.now.history c.args.req.0

pub returns-in-None : goal.returns-in-None
returns-in-None c =
    ap (λ (x : Option Request). unwrap_or (option_map (λ (q : Request). q.target) x) []) c.in-None.ensures
    ∙ target_found c.args.journal.now.history c.args.req.0
