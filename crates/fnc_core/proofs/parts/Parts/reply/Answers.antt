-- The parts are those of the journal with the reply.
use Rattle.std.proofs.Common.{ap, sym, ◌∙◌}
use Rattle.std.specs.Prelude.{option_map}
use Rattle.fnc_journal.specs.declared.entry.Req.{Req}
use Rattle.fnc_core.proofs.AfterReply.{given, request-waits, reply-fits, place-replied, between-replied}
use Rattle.fnc_core.proofs.parts.Parts.reply.Goals as goal

pub requeue-requires : goal.requeue-requires
requeue-requires c =
    let g = given c.args.moment _ c.args.self.now c.args.due c.self.view_is c.requires.between c.requires.first in
    let n = sym (c.next_member.ensures.member _ g.between.stands) ∙ ap (option_map (λ (r : Req). r.0)) c.in-Some.is in
    let s = c.next_member.ensures.stands _ c.in-Some.req c.args.moment c.args.due.answer g.between.lawful
    g.between.stands c.in-Some.is in
    record { room = place-replied c.args.moment _ c.args.due g c.in-Some.req n c.next_member.new.self s }

pub push-requires : goal.push-requires
push-requires c =
    let g = given c.args.moment _ c.args.self.now c.args.due c.self.view_is c.requires.between c.requires.first in
    let n = sym (c.next_member.ensures.member _ g.between.stands) ∙ ap (option_map (λ (r : Req). r.0)) c.in-Some.is in
    reply-fits c.args.moment _ c.args.due g c.in-Some.req n

pub returns-in-Some-clause-between : goal.returns-in-Some-clause-between
returns-in-Some-clause-between c =
    let g = given c.args.moment _ c.args.self.now c.args.due c.self.view_is c.requires.between c.requires.first in
    let n = sym (c.next_member.ensures.member _ g.between.stands) ∙ ap (option_map (λ (r : Req). r.0)) c.in-Some.is in
    let s = c.next_member.ensures.stands _ c.in-Some.req c.args.moment c.args.due.answer g.between.lawful
    g.between.stands c.in-Some.is in
    rw (c.push.ensures.history, c.push.ensures.limit)
    (between-replied c.args.moment _ c.args.due g c.in-Some.req n c.next_member.new.self s
    (c.next_member.ensures.at c.args.moment g.between.at) (c.next_member.ensures.others _ g.between.stands)
    c.requeue.new.queue c.requeue.ensures.changes c.requeue.ensures.alive c.requeue.ensures.places)

pub returns-in_default-clause-adds : goal.returns-in_default-clause-adds
returns-in_default-clause-adds c =
    let g = given c.args.moment _ c.args.self.now c.args.due c.self.view_is c.requires.between c.requires.first in
    absurd (request-waits _ c.args.moment c.args.due g.due
    (sym (c.next_member.ensures.member _ g.between.stands) ∙ ap (option_map (λ (r : Req). r.0)) c.in_default.is))
