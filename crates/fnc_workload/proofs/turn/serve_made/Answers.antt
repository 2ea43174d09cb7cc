-- The line that was written was served, or found no room.
use Rattle.std.proofs.Common.{ℕ, List, sym, ◌∙◌, subst}
use Rattle.fnc_journal.specs.History.{History}
use Rattle.fnc_outside.specs.Events.{Happening}
use Rattle.fnc_replay.proofs.Resting.{driven-passed}
use Rattle.fnc_replay.specs.Rests.{ServesLine}
use Rattle.fnc_replay.specs.Timed.{LacksRoom}
use Rattle.fnc_workload.proofs.Serving.{ended-served, stands-served}
use Rattle.fnc_workload.proofs.Unrolled.{is-cut}
use Rattle.fnc_workload.specs.Ended.{AreEnded, IsPast}
use Rattle.fnc_workload.specs.Lines.{given_line}
use Rattle.fnc_workload.specs.Turns.{course_of}
use Rattle.fnc_workload.proofs.turn.serve_made.Goals as goal

pub past_ended-worker-requires : goal.past_ended-worker-requires
past_ended-worker-requires c =
    subst (λ (h : History). AreEnded c.args.worker.now.past h) (sym c.journal.ensures.history)
    (ended-served c.args.worker.now.past _ c.args.desk.now c.serve.new.desk c.in-Ok.ensures.ok c.requires.stands.ended)

pub returns-in-Ok-clause-turns : goal.returns-in-Ok-clause-turns
returns-in-Ok-clause-turns c =
    stands-served c.args.worker.now c.args.next c.past_ended-worker.result c.args.desk.now c.serve.new.desk
    c.requires.stands
    (subst (λ (bytes : List ℕ). ServesLine (Happening.Line bytes) c.args.desk.now c.serve.new.desk)
    (c.bytes.ensures.bytes ∙ c.write_line.ensures.bytes) c.in-Ok.ensures.ok)
    c.requires.comes c.journal.ensures.sound c.requires.limit
    (subst (λ (h : History). AreEnded c.past_ended-worker.result h) c.journal.ensures.history
    c.past_ended-worker.ensures.ended)
    (subst (λ (h : History). IsPast c.past_ended-worker.result h) c.journal.ensures.history
    c.past_ended-worker.ensures.past)

pub returns-in-Err-clause-turns : goal.returns-in-Err-clause-turns
returns-in-Err-clause-turns c =
    let line : Happening = given_line c.args.next in
    let lacks : LacksRoom line c.args.desk.now c.serve.new.desk c.in-Err.full =
    subst (λ (bytes : List ℕ). LacksRoom (Happening.Line bytes) c.args.desk.now c.serve.new.desk c.in-Err.full)
    (c.bytes.ensures.bytes ∙ c.write_line.ensures.bytes) c.in-Err.ensures.full in
    record {
      cut =
          is-cut (course_of c.args.worker.now) c.args.next c.in-Err.full c.args.desk.now c.serve.new.desk
          c.requires.stands.made c.requires.stands.last lacks c.requires.comes;
      driven =
          driven-passed line c.in-Err.full c.args.desk.now c.serve.new.desk c.requires.stands.rests lacks
          lacks.advances.sound;
      limit = lacks.advances.limit;
    }
