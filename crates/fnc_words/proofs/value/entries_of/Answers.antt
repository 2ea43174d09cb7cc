use Rattle.std.proofs.Common.{◌∙◌, ◌≤◌, arith, subst, sym}
use Rattle.clap.specs.Words.{found_of}
use Rattle.fnc_journal.specs.declared.limits.TheConstants as limits
use Rattle.fnc_words.proofs.Numbers.{default-within, entries-read, or-default}
use Rattle.fnc_words.proofs.value.entries_of.Goals as goal

pub returns-clause-reads : goal.returns-clause-reads
returns-clause-reads c =
    let reads = entries-read (found_of c.args.matches.now) c.get_one.result c.requires
    (record { none = c.get_one.ensures.none; some = c.get_one.ensures.value }) in
    c.unwrap_or.ensures ∙ or-default _ _ limits.DEFAULT_JOURNAL c.get_one.result _ reads

pub returns-clause-within : goal.returns-clause-within
returns-clause-within c =
    let reads = entries-read (found_of c.args.matches.now) c.get_one.result c.requires
    (record { none = c.get_one.ensures.none; some = c.get_one.ensures.value }) in
    subst (λ n. (limits.LEAST_JOURNAL ≤ n) × (n ≤ limits.GREATEST_JOURNAL)) (sym c.unwrap_or.ensures)
    (default-within _ _ limits.DEFAULT_JOURNAL c.get_one.result reads.within (omega arith) (omega arith))
