use Rattle.std.proofs.Common.{ℕ, List, [], ◌≡◌, ap, sym, ◌∙◌}
use Rattle.fnc_journal.specs.Acts.{Act}
use Rattle.fnc_journal.specs.Acts.{acts}
use Rattle.fnc_judge.specs.Courses.{Course, course_of, since_by}
use Rattle.fnc_search.specs.Pursued.{operation}
use Rattle.fnc_journal.specs.Standing.{since}
use Rattle.fnc_judge.proofs.CourseLemmas.{since-is, since-idle}
use Rattle.fnc_judge.proofs.course.since.Goals as goal

pub returns-clause-since : goal.returns-clause-since
returns-clause-since c =
    c.since_by.ensures.since
    ∙ ap (λ (s : Course). since_by c.begin-2.result s) c.course_of.ensures
    ∙ ap (λ (n : ℕ). since_by n
    (course_of c.args.operation.now c.args.moment (acts c.args.operation.now.req c.args.past.now))) c.begin-2.ensures
    ∙ since-is c.args.operation.now c.args.moment (acts c.args.operation.now.req c.args.past.now)

pub returns-then-is_idle-clause-since : goal.returns-then-is_idle-clause-since
returns-then-is_idle-clause-since c =
    let o = c.args.operation.now in
    let none : acts o.req c.args.past.now ≡ [] =
    ap (λ (n : ℕ). acts n c.args.past.now) (sym c.req.ensures) ∙ c.is_idle.ensures c.if-is_idle.true in
    c.from.ensures ∙ c.begin.ensures
    ∙ sym (ap (λ (xs : List Act). since (operation o) c.args.moment xs) none ∙ since-idle (operation o) c.args.moment)
