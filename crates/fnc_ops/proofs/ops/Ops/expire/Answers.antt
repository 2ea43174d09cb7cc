-- The records stand for the journal at the moment.
use Rattle.std.proofs.Common.{◌<◌, ◌∙◌, refl, sym, ap, subst, map}
use Rattle.fnc_ops.specs.Kept.{Kept}
use Rattle.fnc_ops.specs.OpsRecords.{moved, AllWaitBut}
use Rattle.fnc_ops.specs.Stands.{StandsFor, AreAt, AreBy, behind, SpeaksAt, AreAtButEnding}
use Rattle.fnc_ops.proofs.Behind.{by-moved, fewer-behind, numbers-moved, told-moved}
use Rattle.fnc_ops.proofs.StandsMoments.{first-expired, stands-moved, all-moved, others-moved}
use Rattle.fnc_ops.proofs.StillWaits.{all-wait}
use Rattle.fnc_ops.proofs.ops.Ops.expire.Goals as goal

pub returns-clause-first : goal.returns-clause-first
returns-clause-first c = first-expired c.args.journal.now.history c.args.moment c.args.self.now.operations
    c.kept_expired-expired.result c.kept_expired-expired.ensures c.requires.stands.each

pub returns-clause-stands : goal.returns-clause-stands
returns-clause-stands c =
    subst (λ (v : Kept). StandsFor v c.args.journal.now.history) (sym c.kept_moved.ensures)
    (record {
      each = stands-moved c.args.journal.now.history c.args.moment c.args.self.now.operations
          c.kept_expired-expired.result c.requires.later c.requires.stands.each;
      alive = c.requires.stands.alive;
    })

pub returns-clause-moved : goal.returns-clause-moved
returns-clause-moved c = ap (λ (v : Kept). v.operations) c.kept_moved.ensures

pub returns-clause-told : goal.returns-clause-told
returns-clause-told c req e =
    subst (SpeaksAt c.args.moment req.0)
    (sym (returns-clause-moved c ∙ ap (λ x. moved x c.args.moment c.args.self.now.operations) e))
    (told-moved c.args.moment req.0 c.args.self.now.operations)

pub returns-clause-others : goal.returns-clause-others
returns-clause-others c =
    subst (AreAtButEnding c.args.journal.now.history c.args.moment) (sym (returns-clause-moved c))
    (others-moved c.args.journal.now.history c.args.moment c.kept_expired-expired.result c.args.self.now.operations
    c.requires.stands.each)

pub returns-clause-all : goal.returns-clause-all
returns-clause-all c e =
    subst (AreAt c.args.moment) (sym (ap (λ (v : Kept). v.operations) c.kept_moved.ensures
    ∙ ap (λ x. moved x c.args.moment c.args.self.now.operations) e))
    (all-moved c.args.moment c.args.self.now.operations)

pub returns-clause-later : goal.returns-clause-later
returns-clause-later c = subst (λ (v : Kept). AreBy c.args.moment v.operations) (sym c.kept_moved.ensures)
    (by-moved c.args.moment c.kept_expired-expired.result c.args.self.now.operations c.requires.later)

pub returns-clause-fewer : goal.returns-clause-fewer
returns-clause-fewer c req e =
    subst (λ rs. behind c.args.moment rs < behind c.args.moment c.args.self.now.operations)
    (sym (returns-clause-moved c ∙ ap (λ x. moved x c.args.moment c.args.self.now.operations) e))
    (fewer-behind c.args.moment c.args.self.now.operations req (sym c.kept_expired-expired.ensures ∙ e))

pub returns-clause-same : goal.returns-clause-same
returns-clause-same c = ap (λ (v : Kept). map (λ r. r.req) v.operations) c.kept_moved.ensures
    ∙ numbers-moved c.args.moment c.kept_expired-expired.result c.args.self.now.operations

pub returns-clause-waits : goal.returns-clause-waits
returns-clause-waits c lawful =
    subst (AllWaitBut c.kept_expired-expired.result c.args.self.now) (sym c.kept_moved.ensures)
    (all-wait c.args.journal.now.history
    (λ o a m. c.each_stands_still.ensures.still c.args.journal.now.history o a m lawful) c.args.moment
    c.kept_expired-expired.result c.args.self.now
    (record c.args.self.now {
      operations = moved c.kept_expired-expired.result c.args.moment c.args.self.now.operations;
    })
    c.kept_expired-expired.ensures c.requires.later c.requires.stands.each refl)
