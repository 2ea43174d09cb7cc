-- The records stand for the journal with the reply.
use Rattle.std.proofs.Common.{◌∷◌, ◌∙◌, sym, ap, subst}
use Rattle.std.specs.Prelude.{option_map}
use Rattle.fnc_journal.specs.declared.entry.Req.{Req}
use Rattle.fnc_ops.specs.Kept.{Kept}
use Rattle.fnc_ops.specs.OpsRecords.{waiting}
use Rattle.fnc_ops.specs.Stands.{StandsFor, AreAt, reply_entry}
use Rattle.fnc_ops.proofs.StandsReplies.{next_is, stands-replied, waiting-replied, at-replied}
use Rattle.fnc_ops.proofs.ops.Ops.next_member.Goals as goal

pub returns-in-Some-clause-member : goal.returns-in-Some-clause-member
returns-in-Some-clause-member c h stands = next_is c.args.self.now.operations h c.args.operation.0
    c.kept_member-member.result c.kept_member-member.ensures stands.each

pub returns-in-Some-clause-stands : goal.returns-in-Some-clause-stands
returns-in-Some-clause-stands c h req moment answer lawful stands found =
    subst (λ (v : Kept). StandsFor v (reply_entry moment req answer ∷ h)) (sym c.kept_replied.ensures)
    (record {
      each = stands-replied c.args.self.now.operations h lawful c.args.operation.0 moment req answer
          (sym (next_is c.args.self.now.operations h c.args.operation.0 c.kept_member-member.result
          c.kept_member-member.ensures stands.each) ∙ ap (option_map (λ (r : Req). r.0)) found) stands.each;
      alive = stands.alive;
    })

pub returns-in_default-clause-member : goal.returns-in_default-clause-member
returns-in_default-clause-member c h stands = next_is c.args.self.now.operations h c.args.operation.0
    c.kept_member-member.result c.kept_member-member.ensures stands.each

pub returns-in-Some-clause-at : goal.returns-in-Some-clause-at
returns-in-Some-clause-at c m at = subst (λ (v : Kept). AreAt m v.operations) (sym c.kept_replied.ensures)
    (at-replied c.args.self.now.operations c.args.operation.0 m at)

pub returns-in-Some-clause-others : goal.returns-in-Some-clause-others
returns-in-Some-clause-others c h stands n other =
    ap (λ (v : Kept). waiting n v.operations) c.kept_replied.ensures ∙ waiting-replied c.args.self.now.operations h
    c.args.operation.0 n other stands.each
