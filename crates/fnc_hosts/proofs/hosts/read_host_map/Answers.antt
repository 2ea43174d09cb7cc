use Rattle.std.proofs.Common.{◌≡◌, length, map, ◌+◌, ◌-◌, sym, ap, ◌∙◌, arith, rules}
use Rattle.std.proofs.lemmas.Result.{err_from_is_err_and}
use Rattle.fnc_hosts.specs.Entries.{entries_from, separates_map}
use Rattle.fnc_hosts.specs.Hosts.{host_map, host_pair, together}
use Rattle.fnc_hosts.proofs.Reading.{onto, onto-ok, Fails-all}
use Rattle.fnc_hosts.proofs.hosts.read_host_map.Goals as goal

pub returns-in_err-pair : goal.returns-in_err-pair
returns-in_err-pair c =
    let text = c.args.text.now in
    let place = length text - length c.loop-cut.rest.now in
    let cut = c.in-Some.cut in
    let p = err_from_is_err_and c.from_residual.result c.from_residual.ensures.1 in
    let split = c.in-Some.ensures.2 place in
    rw (p.1, p.2)
    (Fails-all c.in_err-pair.field-0.0 (host_pair (record { place = place + cut.skipped; text = cut.entry.now }))
    (host_map text) c.in_err-pair.ensures
    (λ e. grind arith))

pub loop-cut-preserved : goal.loop-cut-preserved
loop-cut-preserved c =
    let text = c.args.text.now in
    let place = length text - length c.loop-cut.rest.now in
    let cut = c.in-Some.cut in
    let after = entries_from separates_map (place + cut.skipped + length cut.entry.now) cut.rest.now in
    let moved : place + cut.skipped + length cut.entry.now ≡ length text - length cut.rest.now =
    omega (arith, c.in-Some.ensures.1) in
    let split = ap (λ es. onto c.loop-cut.pairs (together (map host_pair es))) (c.in-Some.ensures.2 place) in
    let joined =
    onto-ok c.loop-cut.pairs c.in_ok-pair.field-0
    (host_pair (record { place = place + cut.skipped; text = cut.entry.now })) (map host_pair after)
    c.in_ok-pair.ensures in
    record {
      utf8 = search rules;
      room = omega (arith, c.in-Some.ensures.1);
      read = rw (c.in_ok-push.ensures.ok, sym moved) (sym joined ∙ sym split ∙ c.loop-cut.invariant.read);
    }
