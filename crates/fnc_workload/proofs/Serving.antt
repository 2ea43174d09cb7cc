-- How a workload stands after a line that was served.
use Rattle.std.proofs.Common.{ℕ, ◌≡◌, refl, sym, ap, subst, Some, arith}
use Rattle.fnc_journal.specs.History.{History}
use Rattle.fnc_outside.specs.Events.{Happening}
use Rattle.fnc_core.specs.Cored.{Cored, Sound}
use Rattle.fnc_replay.proofs.Growing.{grows-served}
use Rattle.fnc_replay.proofs.Hearing.{last-served}
use Rattle.fnc_replay.proofs.Resting.{rests-served}
use Rattle.fnc_replay.specs.Rests.{ServesLine}
use Rattle.fnc_workload.proofs.Least.{ended-more}
use Rattle.fnc_workload.proofs.Moments.{soon}
use Rattle.fnc_workload.proofs.Unrolled.{are-made, limit-served, longer, standing-served}
use Rattle.fnc_workload.specs.Ended.{AreEnded, IsPast}
use Rattle.fnc_workload.specs.Lines.{given_line, least_alive, next_line, standing}
use Rattle.fnc_workload.specs.Turns.{Serves, Stands, course_of}
use Rattle.fnc_workload.specs.declared.making.Making.{Making}
use Rattle.fnc_workload.specs.declared.making.Next.{Next}
use Rattle.fnc_workload.specs.declared.turn.Worker.{Worker}

-- what had ended stays so
pub ended-served : (n : ℕ) (line : Happening) (old new : Cored) → ServesLine line old new → AreEnded n old.history →
    AreEnded n new.history
ended-served n line old new s a =
    let g = grows-served line old new s in
    subst (λ (h : History). AreEnded n h) (sym g.history) (ended-more n g.more old.history a)

pub stands-served : (w : Worker) (n : Next) (past : ℕ) (old new : Cored) → Stands w old →
    ServesLine (given_line n) old new → next_line (course_of w) old.history ≡ Some n → Sound new → old.limit ≡ 1048576 →
    AreEnded past new.history → IsPast past new.history →
    Serves w (record w { making = n.making; past = past }) old new
stands-served w n past old new k s q sound limit ended is_past = record {
  stands = record {
    rests = rests-served (given_line n) old s.mid new k.rests s.takes s.starts sound;
    made = are-made (course_of w) n old new k.made k.last s q;
    last = last-served (given_line n) old new s;
    making = sym (standing-served (course_of w) n (given_line n) old new s q);
    ended = ended;
    past = is_past;
    early =
        let at = soon (standing (course_of w) old.history) w.count (least_alive old.history) n q in
        let before : w.making.moment ≡ (standing (course_of w) old.history).moment =
        ap (λ (x : Making). x.moment) k.making in
        let early = k.early in
        let more = longer (given_line n) old new s in
        omega (arith, at, before, early, more);
    within =
        let room = sound.room in let same = limit-served (given_line n) old new s in omega (arith, room, same, limit);
    few = k.few;
  };
  same = refl;
  more = longer (given_line n) old new s;
  limit = limit-served (given_line n) old new s;
}
