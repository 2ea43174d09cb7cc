use Rattle.std.proofs.Common.{ℕ, ◌∷◌, ◌≡◌, ◌<◌, ◌≤◌, sym, ap, ◌∙◌, arith, subst, length, Some}
use Rattle.fnc_journal.specs.History.{History}
use Rattle.fnc_journal.specs.Prefix.{prefix}
use Rattle.fnc_journal.specs.Links.{latest}
use Rattle.fnc_journal.specs.Acts.{acts, act_here}
use Rattle.fnc_journal.specs.Lawful.{Lawful}
use Rattle.fnc_search.specs.declared.seen.Seen.{Seen}
use Rattle.fnc_search.specs.Seen.{seen_of, seen_with}
use Rattle.fnc_journal.specs.Found.{entry_at}
use Rattle.fnc_search.proofs.Prefixed.{prefix-length, prefix-most}
use Rattle.fnc_search.proofs.Numbered.{lawful-prefix}
use Rattle.fnc_search.proofs.Looks.{seen-more, failed-most}
use Rattle.fnc_search.proofs.Chained.{acts-latest, acts-nowhere, earlier-latest, latest-less, latest-within}
use Rattle.fnc_search.proofs.seen.+looked_back.Goals as goal

pub looked_back-seen-requires : goal.looked_back-seen-requires
looked_back-seen-requires t c =
    let h : History = c.args.past.now in
    let here : latest c.args.req h ≡ Some c.in-Some.at = sym c.requires.newest ∙ c.in-Some.is in
    let less : c.in-Some.at < length h = latest-less c.args.req h c.in-Some.at here in
    let short : length (prefix c.in-Some.at h) ≤ c.in-Some.at = prefix-most h c.in-Some.at in
    let long : length c.before-before.result ≡ length (prefix c.in-Some.at h) = ap length c.before-before.ensures in
    let whose : c.earlier.result ≡ latest c.args.req c.before-before.result = c.earlier.ensures
    ∙ earlier-latest c.args.req h c.in-Some.at here
    ∙ ap (λ (k : History). latest c.args.req k) (sym c.before-before.ensures) in (
      omega (arith, less, short, long, c.decreases),
      (
        subst (λ (k : History). Lawful k) (sym c.before-before.ensures)
            (lawful-prefix h c.requires.lawful c.in-Some.at),
        (whose, latest-within c.args.req c.before-before.result c.earlier.result whose),
      ),
    )

pub after-requires-clause-few : goal.after-requires-clause-few
after-requires-clause-few t c =
    let few = ap (λ (s : Seen). s.failed) c.looked_back-seen.ensures in
    let least = failed-most c.args.task.now c.args.over c.args.req c.before-before.result in
    omega (arith, few, least, c.len.ensures, c.len.type_inv)

pub after-requires-clause-lawful : goal.after-requires-clause-lawful
after-requires-clause-lawful t c =
    subst (λ (k : History). Lawful k) (sym c.before-before.ensures)
    (lawful-prefix c.args.past.now c.requires.lawful c.in-Some.at)

pub returns-in-None : goal.returns-in-None
returns-in-None t c =
    let h : History = c.args.past.now in
    c.nothing.ensures c.args.task.now c.args.over
    ∙ ap (seen_of c.args.task.now c.args.over)
    (sym (acts-nowhere c.args.req h c.requires.lawful (sym c.requires.newest ∙ c.in-None.is)))

-- what lies before the newest entry has as many entries as its index says
long : (h b : History) (i n : ℕ) → i < length h → b ≡ prefix i h → n ≡ length b → n ≡ i
long h b i n less same count =
    count ∙ ap length same ∙ prefix-length h i (omega (arith, less))

pub entry-requires : goal.entry-requires
entry-requires t c =
    let h : History = c.args.past.now in
    let here : latest c.args.req h ≡ Some c.in-Some.at = sym c.requires.newest ∙ c.in-Some.is in
    let less : c.in-Some.at < length h = latest-less c.args.req h c.in-Some.at here in
    let same : c.len.result ≡ c.in-Some.at =
    long h c.before-before.result c.in-Some.at c.len.result less c.before-before.ensures c.len.ensures in
    omega (arith, less, same)

pub returns-in-Some : goal.returns-in-Some
returns-in-Some t c =
    let h : History = c.args.past.now in
    let e = c.entry.result.now in
    let here : latest c.args.req h ≡ Some c.in-Some.at = sym c.requires.newest ∙ c.in-Some.is in
    let less : c.in-Some.at < length h = latest-less c.args.req h c.in-Some.at here in
    let same : c.len.result ≡ c.in-Some.at =
    long h c.before-before.result c.in-Some.at c.len.result less c.before-before.ensures c.len.ensures in
    c.after.ensures
    ∙ ap (λ (a : Seen). seen_with c.args.task.now c.args.over a
    (act_here c.args.req e.moment (acts c.args.req c.before-before.result) e.event)) c.looked_back-seen.ensures
    ∙ seen-more c.args.task.now c.args.over c.args.req e.moment e.event c.before-before.result
    ∙ ap (λ (k : History). seen_of c.args.task.now c.args.over (acts c.args.req (e ∷ k))) c.before-before.ensures
    ∙ ap (seen_of c.args.task.now c.args.over)
    (sym (acts-latest c.args.req h c.requires.lawful c.in-Some.at e here
    (ap (λ (n : ℕ). entry_at n h) (sym same) ∙ c.entry.ensures)))
