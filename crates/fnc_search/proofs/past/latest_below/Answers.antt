use Rattle.std.proofs.Common.{◌≡◌, ◌<◌, ◌≤◌, ◌+◌, Some, None, sym, ap, ◌∙◌, arith, length, subst}
use Rattle.fnc_journal.specs.History.{History}
use Rattle.fnc_journal.specs.Links.{latest, earlier}
use Rattle.fnc_journal.specs.Prefix.{prefix}
use Rattle.fnc_journal.proofs.Prefixes.{prefix-all}
use Rattle.fnc_search.proofs.Prefixed.{prefix-shorter}
use Rattle.fnc_search.proofs.Chained.{Reaches, reaches, before-it, latest-less, way, way-less}
use Rattle.fnc_search.proofs.past.latest_below.Goals as goal

pub loop-found-init : goal.loop-found-init
loop-found-init c =
    let h : History = c.args.journal.now.history in
    reaches c.args.req c.args.len (length h) h c.latest-found.result c.requires
    (ap (λ (k : History). latest c.args.req k) (prefix-all h (length h) (omega arith)) ∙ sym c.latest-found.ensures)

pub returns-then-at-len : goal.returns-then-at-len
returns-then-at-len c =
    let inv : Reaches c.args.req c.args.journal.now.history c.args.len (Some c.in-Some.at) =
    subst (Reaches c.args.req c.args.journal.now.history c.args.len) c.in-Some.is c.loop-found.invariant in
    sym (inv.1 c.if-at-len.true)

pub earlier-found-requires : goal.earlier-found-requires
earlier-found-requires c =
    let h : History = c.args.journal.now.history in
    let i = c.in-Some.at in
    let inv : Reaches c.args.req h c.args.len (Some i) =
    subst (Reaches c.args.req h c.args.len) c.in-Some.is c.loop-found.invariant in
    let less : i < length (prefix (i + 1) h) = latest-less c.args.req (prefix (i + 1) h) i inv.0 in
    let short : length (prefix (i + 1) h) ≤ length h = prefix-shorter (i + 1) h in
    omega (arith, less, short)

pub loop-found-preserved : goal.loop-found-preserved
loop-found-preserved c =
    let h : History = c.args.journal.now.history in
    let i = c.in-Some.at in
    let inv : Reaches c.args.req h c.args.len (Some i) =
    subst (Reaches c.args.req h c.args.len) c.in-Some.is c.loop-found.invariant in
    reaches c.args.req c.args.len i h c.earlier-found.result c.if-at-len.false
    (before-it c.args.req h i inv.0 ∙ sym c.earlier-found.ensures)

pub loop-found-smaller : goal.loop-found-smaller
loop-found-smaller c =
    let h : History = c.args.journal.now.history in
    let i = c.in-Some.at in
    let inv : Reaches c.args.req h c.args.len (Some i) =
    subst (Reaches c.args.req h c.args.len) c.in-Some.is c.loop-found.invariant in
    let next : way c.earlier-found.result ≡ way (earlier i h) = ap way c.earlier-found.ensures in
    let here : way c.loop-found.found ≡ i + 1 = ap way c.in-Some.is in
    let less : way (earlier i h) < i + 1 = way-less c.args.req h i inv.0 in
    let smaller : way c.earlier-found.result < way c.loop-found.found = omega (arith, next, here, less) in
    smaller

pub returns : goal.returns
returns c =
    let h : History = c.args.journal.now.history in
    let inv : Reaches c.args.req h c.args.len None =
    subst (Reaches c.args.req h c.args.len) c.in_default.is c.loop-found.invariant in
    sym inv
