use Rattle.std.proofs.Common.{sym, ap, arith}
use Rattle.std.specs.Prelude.{Option, option_and_then}
use Rattle.fnc_journal.specs.declared.entry.Entry.{Entry}
use Rattle.fnc_journal.specs.Levels.{pattern_here}
use Rattle.fnc_search.proofs.Prefixed.{entry_at-past}
use Rattle.fnc_search.proofs.level.pattern_at.Goals as goal

pub returns-else-at-len : goal.returns-else-at-len
returns-else-at-len c =
    sym (ap (λ (x : Option Entry). option_and_then (λ (e : Entry). pattern_here e.event) x)
    (entry_at-past c.args.past.now c.args.at (omega (arith, c.if-at-len.false, c.len.ensures))))
