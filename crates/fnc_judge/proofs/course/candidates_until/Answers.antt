use Rattle.std.proofs.Common.{◌≡◌, ◌+◌, sym, ap, ◌∙◌, arith, length, Some, None}
use Rattle.fnc_journal.specs.Device.{Device}
use Rattle.fnc_journal.specs.Missing.{first_of}
use Rattle.fnc_journal.specs.Acts.{acts}
use Rattle.fnc_search.specs.declared.candidates.After.{After}
use Rattle.fnc_search.specs.Keyed.{key, later}
use Rattle.fnc_search.specs.Pursued.{operation, queried_at}
use Rattle.fnc_judge.specs.Courses.{Course, coursed_all, coursed_any, stand, start, tried}
use Rattle.fnc_search.proofs.Queue.{keyed_of, left, left-all, left-none, left-past, room-all, room-more}
use Rattle.fnc_judge.proofs.Stands.{stands-waiting}
use Rattle.fnc_judge.proofs.Lefts.{left-more, index-more}
use Rattle.fnc_judge.proofs.course.candidates_until.Goals as goal

pub loop-place-init : goal.loop-place-init
loop-place-init c =
    let o = c.args.operation.now in
    let first = ap (λ (s : Course). s.index) c.start-course.ensures in
    record {
      all =
          ap (coursed_all (operation o) c.args.moment (acts o.req c.args.past.now) start) (left-all o)
          ∙ ap (λ s. coursed_all (operation o) c.args.moment (acts o.req c.args.past.now) s (left o None 0))
          (sym c.start-course.ensures);
      room = let all = room-all o in omega (arith, all);
      few = omega (arith, first);
    }

pub with_candidate-course-requires-clause-few : goal.with_candidate-course-requires-clause-few
with_candidate-course-requires-clause-few c =
    let long = c.len-most.ensures ∙ ap length c.before-2.ensures in
    omega (arith, c.loop-place.invariant.few, c.loop-place-test.true, c.len-most.type_inv)

pub loop-place-preserved : goal.loop-place-preserved
loop-place-preserved c =
    let o = c.args.operation.now in
    let xs = acts o.req c.args.past.now in
    let found : first_of (later c.loop-place.after (keyed_of o)) ≡ Some c.in-Some.candidate =
    sym c.next_candidate.ensures ∙ c.in-Some.is in
    let more = c.with_candidate-course.ensures
    ∙ ap (λ (d : Device). coursed_any (operation o) c.args.moment xs c.loop-place.course
    (queried_at o c.loop-place.place d)) c.device.ensures in
    let fewer = room-more o c.loop-place.after c.in-Some.candidate found in
    let later-key = ap (λ (k : After). length (later (Some k) (keyed_of o))) c.key.ensures in
    let index = ap (λ (s : Course). s.index) more in
    let most = index-more (operation o) c.args.moment xs c.loop-place.course
    (queried_at o c.loop-place.place c.in-Some.candidate.device)
    (c.loop-place.place + 1) c.loop-place.invariant.few in
    record {
      all =
          c.loop-place.invariant.all
          ∙ left-more (operation o) c.args.moment xs c.loop-place.course o c.loop-place.after c.in-Some.candidate
          c.loop-place.place found
          ∙ ap (λ s. coursed_all (operation o) c.args.moment xs s
          (left o (Some (key c.in-Some.candidate)) (c.loop-place.place + 1))) (sym more)
          ∙ ap (λ (k : After). coursed_all (operation o) c.args.moment xs c.with_candidate-course.result
          (left o (Some k) (c.loop-place.place + 1))) (sym c.key.ensures);
      room = omega (arith, c.loop-place.invariant.room, fewer, later-key);
      few = omega (arith, index, most);
    }

pub returns-then-waits : goal.returns-then-waits
returns-then-waits c =
    let o = c.args.operation.now in
    let xs = acts o.req c.args.past.now in
    stands-waiting (operation o) c.args.moment xs c.loop-place.course (left o c.loop-place.after c.loop-place.place)
    (sym c.waits.ensures ∙ c.if-waits.true)
    ∙ sym (ap (λ (s : Course). stand (tried s)) c.loop-place.invariant.all)

pub returns-in-None : goal.returns-in-None
returns-in-None c =
    let o = c.args.operation.now in
    let xs = acts o.req c.args.past.now in
    let end = left-none o c.loop-place.after c.loop-place.place (sym c.next_candidate.ensures ∙ c.in-None.is) in
    sym (ap (λ (s : Course). stand (tried s))
    (c.loop-place.invariant.all ∙ ap (coursed_all (operation o) c.args.moment xs c.loop-place.course) end))

pub returns : goal.returns
returns c =
    let o = c.args.operation.now in
    let xs = acts o.req c.args.past.now in
    let long = c.len-most.ensures ∙ ap length c.before-2.ensures in
    let end = left-past o c.loop-place.after c.loop-place.place
    (omega (arith, long, c.loop-place.invariant.room, c.loop-place-test.false)) in
    sym (ap (λ (s : Course). stand (tried s))
    (c.loop-place.invariant.all ∙ ap (coursed_all (operation o) c.args.moment xs c.loop-place.course) end))
