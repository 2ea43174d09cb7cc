use Rattle.std.proofs.Common.{ℕ, ap, ◌∙◌}
use Rattle.std.specs.Prelude.{option_map}
use Rattle.fnc_journal.specs.Acts.{acts}
use Rattle.fnc_judge.specs.Courses.{Stand, course_of, due_by, due_of, answer_of}
use Rattle.fnc_judge.proofs.CourseLemmas.{due-is}
use Rattle.fnc_judge.proofs.course.due_by_acts.Goals as goal

pub returns : goal.returns
returns c =
    let xs = acts c.args.operation.now.req c.args.past.now in
    ap (option_map answer_of) (c.due_by.ensures
    ∙ ap (λ (s : Stand). due_of c.over.result c.args.moment s) c.course_until.ensures
    ∙ ap (λ (n : ℕ). due_by n c.args.moment (course_of c.args.operation.now c.args.moment xs).queries
    (course_of c.args.operation.now c.args.moment xs).survey) c.over.ensures)
    ∙ due-is c.args.operation.now c.args.moment xs
