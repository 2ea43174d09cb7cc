use Rattle.std.proofs.Common.{◌≡◌, ◌+◌, ◌<◌, ℕ, length, List, Result, Err, ap, sym, ◌∙◌, arith}
use Rattle.std.proofs.lemmas.Bool.Decides.{nat_tests}
use Rattle.fnc_switch.specs.declared.plug.Plug.{Plug}
use Rattle.fnc_switch.specs.declared.switch.SwitchFault.{SwitchFault}
use Rattle.fnc_switch.specs.Switches.{switch_of}
use Rattle.fnc_switch.proofs.ReadLines.{ends, goes_on}
use Rattle.fnc_switch.proofs.switch.add_lines.Goals as goal

pub loop-rest-preserved : goal.loop-rest-preserved
loop-rest-preserved c =
    let filled : 0 < length c.loop-rest.rest.now = grind (arith, nat_tests) in
    let gains = rw c.cut.ensures.front at c.in-Ok.ensures.ok in
    rw c.cut.ensures.back (goes_on c.loop-rest.switch c.add_line.new.self c.loop-rest.rest.now
    (switch_of c.args.text.now) filled gains c.loop-rest.invariant)

numbered : (said : Result (List Plug) SwitchFault) (old new : List Plug) (count : ℕ)
    → said ≡ Err (SwitchFault.BadLine (length old + 1)) → new ≡ old → count ≡ length new
    → said ≡ Err (SwitchFault.BadLine (count + 1))
numbered said old new count e same counted =
    e ∙ ap (λ n. Err (SwitchFault.BadLine (n + 1))) (sym (counted ∙ ap length same))

pub returns-in-Err-NoPlug-clause-err : goal.returns-in-Err-NoPlug-clause-err
returns-in-Err-NoPlug-clause-err c =
    let filled : 0 < length c.loop-rest.rest.now = grind (arith, nat_tests) in
    let bad = rw (c.in-Err-NoPlug.field-0-is, c.cut.ensures.front) at c.in-Err-NoPlug.ensures.err in
    numbered (switch_of c.args.text.now) c.loop-rest.switch c.add_line.new.self c.count.result
    (ends c.loop-rest.switch c.loop-rest.rest.now (switch_of c.args.text.now) filled bad c.loop-rest.invariant)
    c.in-Err-NoPlug.ensures.unchanged c.count.ensures.count
