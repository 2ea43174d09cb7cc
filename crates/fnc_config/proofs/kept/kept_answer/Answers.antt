use Rattle.std.proofs.Common.{◌∙◌, ap, sym}
use Rattle.fnc_journal.specs.Kept.{kept_by, kept_until, last_listing}
use Rattle.fnc_config.proofs.kept.kept_answer.Goals as goal
use Rattle.fnc_config.proofs.KeptAnswers.{early-all, kept-among}

pub returns-in-DynamicList : goal.returns-in-DynamicList
returns-in-DynamicList c =
    let h = c.args.journal.now.history in
    let keep = c.args.definition.now.keep in
    c.last_kept.ensures
    ∙ kept-among h c.args.reg.0 c.args.target.now keep c.args.moment h c.requires.lawful (early-all h)
    ∙ ap
    (λ check. kept_by check (kept_until keep c.args.moment (last_listing c.args.reg.0 c.args.target.now h)))
    (sym c.in-DynamicList.is)
