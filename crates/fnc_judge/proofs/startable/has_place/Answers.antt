use Rattle.std.proofs.Common.{ℕ, Option, nat_lt, sym, ap, ◌∙◌}
use Rattle.fnc_journal.specs.Registered.{lane}
use Rattle.fnc_journal.specs.Startable.{alive, has_room}
use Rattle.fnc_judge.proofs.startable.has_place.Goals as goal

pub returns-in-Some : goal.returns-in-Some
returns-in-Some c =
    let h = c.args.past.now in
    ap (λ (n : ℕ). nat_lt n c.in-Some.cap)
    (c.alive.ensures ∙ ap (λ (l : ℕ). alive l h) (c.lane_of.ensures ∙ ap (λ (r : ℕ). lane r h) c.reg.ensures))
    ∙ ap (λ (x : Option ℕ). has_room (alive (lane c.args.task.now.reg h) h) x) (sym c.in-Some.is ∙ c.cap.ensures)

pub returns-in-None : goal.returns-in-None
returns-in-None c =
    let h = c.args.past.now in
    ap (λ (x : Option ℕ). has_room (alive (lane c.args.task.now.reg h) h) x) (sym c.in-None.is ∙ c.cap.ensures)
