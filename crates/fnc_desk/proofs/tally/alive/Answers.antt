use Rattle.std.proofs.Common.{ap, arith}
use Rattle.fnc_desk.specs.declared.tally.Tally.{Tally}
use Rattle.fnc_desk.proofs.Tallies.{alive-counted}
use Rattle.fnc_desk.proofs.tally.alive.Goals as goal

pub overflow_sub-result : goal.overflow_sub-result
overflow_sub-result c =
    let started = ap (λ (t : Tally). t.started) c.requires.counts in
    let ended = ap (λ (t : Tally). t.ended) c.requires.counts in
    omega (arith, started, ended, alive-counted c.args.journal.now.history c.requires.lawful)

pub returns : goal.returns
returns c =
    let started = ap (λ (t : Tally). t.started) c.requires.counts in
    let ended = ap (λ (t : Tally). t.ended) c.requires.counts in
    omega (arith, started, ended, alive-counted c.args.journal.now.history c.requires.lawful)
