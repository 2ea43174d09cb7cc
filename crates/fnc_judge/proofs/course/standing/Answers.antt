use Rattle.std.proofs.Common.{ap, ◌∙◌}
use Rattle.fnc_journal.specs.Acts.{acts}
use Rattle.fnc_judge.specs.Courses.{Stand, standing_of}
use Rattle.fnc_judge.proofs.CourseLemmas.{standing-is}
use Rattle.fnc_judge.proofs.course.standing.Goals as goal

pub returns : goal.returns
returns c =
    c.standing_by.ensures
    ∙ ap (λ (s : Stand). standing_of s) c.course_until.ensures
    ∙ standing-is c.args.operation.now c.args.moment (acts c.args.operation.now.req c.args.past.now)
