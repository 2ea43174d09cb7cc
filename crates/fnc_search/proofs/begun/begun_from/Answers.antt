use Rattle.std.proofs.Common.{sym, ap, ◌∙◌, arith}
use Rattle.fnc_journal.specs.Acts.{acts}
use Rattle.fnc_journal.specs.Found.{asked}
use Rattle.fnc_journal.specs.Operations.{requests}
use Rattle.fnc_journal.specs.History.{History}
use Rattle.fnc_journal.specs.Prefix.{prefix}
use Rattle.fnc_journal.proofs.Prefixes.{prefix-none}
use Rattle.fnc_journal.proofs.Requests.{fresh_ask}
use Rattle.fnc_journal.proofs.Fresh.{unasked_idle, unasked_unrequested}
use Rattle.fnc_search.proofs.Numbered.{asks-there, lawful-prefix}
use Rattle.fnc_search.proofs.begun.begun_from.Goals as goal

pub returns-in-Some-clause-asked : goal.returns-in-Some-clause-asked
returns-in-Some-clause-asked c =
    let h : History = c.args.past.now in
    let here = asks-there h c.requires c.args.req c.in-Some.at (sym c.ask_at.ensures.at ∙ c.in-Some.is) in
    fresh_ask (prefix c.in-Some.at h) (lawful-prefix h c.requires c.in-Some.at) c.args.req (omega (arith, here))

pub returns-in-Some-clause-requests : goal.returns-in-Some-clause-requests
returns-in-Some-clause-requests c =
    let h : History = c.args.past.now in
    let here = asks-there h c.requires c.args.req c.in-Some.at (sym c.ask_at.ensures.at ∙ c.in-Some.is) in
    unasked_unrequested (prefix c.in-Some.at h) (lawful-prefix h c.requires c.in-Some.at) c.args.req (omega (arith, here))

pub returns-in-Some-clause-idle : goal.returns-in-Some-clause-idle
returns-in-Some-clause-idle c =
    let h : History = c.args.past.now in
    let here = asks-there h c.requires c.args.req c.in-Some.at (sym c.ask_at.ensures.at ∙ c.in-Some.is) in
    unasked_idle (prefix c.in-Some.at h) (lawful-prefix h c.requires c.in-Some.at) c.args.req (omega (arith, here))

pub returns-in-None-clause-asked : goal.returns-in-None-clause-asked
returns-in-None-clause-asked c = ap (λ (k : History). asked c.args.req k) (prefix-none c.args.past.now)

pub returns-in-None-clause-requests : goal.returns-in-None-clause-requests
returns-in-None-clause-requests c = ap (λ (k : History). requests c.args.req k) (prefix-none c.args.past.now)

pub returns-in-None-clause-idle : goal.returns-in-None-clause-idle
returns-in-None-clause-idle c = ap (λ (k : History). acts c.args.req k) (prefix-none c.args.past.now)
