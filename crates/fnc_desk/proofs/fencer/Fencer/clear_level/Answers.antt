use Rattle.std.proofs.Common.{◌≤◌, sym, arith, refl, subst}
use Rattle.fnc_journal.specs.declared.event.Event.{Event}
use Rattle.fnc_journal.specs.Known.{KnowsFew}
use Rattle.fnc_core.specs.Cored.{Cored}
use Rattle.fnc_desk.proofs.Changing.{few-still, index-within, standing-index, target-within}
use Rattle.fnc_desk.proofs.Keeping.{keeps-changed}
use Rattle.fnc_desk.proofs.fencer.Fencer.clear_level.Goals as goal

pub overflow_cast-level : goal.overflow_cast-level
overflow_cast-level c =
    let h = c.self.inside.core.history in
    let few = subst (λ (v : Cored). KnowsFew v.history) (sym c.self.view_is) c.requires.sound.few in
    let within =
    standing-index c.args.target c.args.index h few (c.in_ok-clear_level.ensures.stood h c.self.invariant.0) in
    let most : c.args.index ≤ 9 = within.1 in
    omega (arith, most)

pub note-requires-clause-few_names : goal.note-requires-clause-few_names
note-requires-clause-few_names c =
    few-still c.self.inside.core c.args.self.now
    (Event.LevelGone (record { target = c.args.target; index = c.args.index })) c.self.view_is c.requires.sound refl

pub invariant_of-self-2 : goal.invariant_of-self-2
invariant_of-self-2 c =
    let h = c.self.inside.core.history in
    let few = subst (λ (v : Cored). KnowsFew v.history) (sym c.self.view_is) c.requires.sound.few in
    let within =
    standing-index c.args.target c.args.index h few (c.in_ok-clear_level.ensures.stood h c.self.invariant.0) in
    let place = index-within c.args.index within.0 within.1 in
    let aim = target-within c.args.target c.requires.proper in
    keeps-changed c.self.inside.config c.clear_level.new.self c.self.inside.core c.note.new.core
    (Event.LevelGone (record { target = c.args.target; index = c.args.index })) 1 c.in_ok-clear_level.ensures.ok
    (rw (place, aim) refl) c.note.ensures c.self.invariant
