-- Nothing is owed exactly where the core is idle.
use Rattle.std.proofs.Common.{◌≡◌, ◌==◌, ◌∙◌, ◌≤◌, ◌+◌, true, sym, ap, subst, arith, length, eqb-true, eq-eqb}
use Rattle.fnc_journal.specs.declared.limits.TheConstants.{GREATEST_JOURNAL}
use Rattle.fnc_journal.specs.Owed.{owed}
use Rattle.fnc_ops.specs.Stands.{StandsFor}
use Rattle.fnc_core.specs.Cored.{Cored, IsIdle}
use Rattle.fnc_core.specs.Parted.{Parted}
use Rattle.fnc_core.proofs.Sounds.{idle-owes, owes-idle}
use Rattle.fnc_core.proofs.machine.Core.idle.Goals as goal

pub returns : goal.returns
returns c =
    let r = c.self.invariant.rests.between in
    let room : length c.self.inside.parts.history + owed c.self.inside.parts.history ≤ c.self.inside.parts.limit =
    r.room in
    let small : c.self.inside.parts.limit ≤ GREATEST_JOURNAL = r.small in
    let is : c.owed.result ≡ owed c.self.inside.parts.history =
    c.owed.ensures c.self.inside.parts.history
    (subst (λ (p : Parted). StandsFor p.ops c.self.inside.parts.history)
    (sym (ap (λ i. i.parts) c.self-inside.view_is)) r.stands) (omega (arith, room, small)) in
    subst (λ (v : Cored). ((c.owed.result == 0) ≡ true → IsIdle v) × (IsIdle v → (c.owed.result == 0) ≡ true))
    c.self.view_is (
      λ e. let k = idle-owes c.self.inside.parts.history
          (sym is ∙ eqb-true c.owed.result 0 e) in record { closed = k.0; ended = k.1 },
      λ i. eq-eqb c.owed.result 0 (is ∙ owes-idle c.self.inside.parts.history i.closed i.ended),
    )
