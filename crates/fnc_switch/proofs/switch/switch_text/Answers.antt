-- The plugs can be written, so the law on lists speaks of the text.
use Rattle.std.proofs.Common.{ℕ, ◌∙◌, ap}
use Rattle.std.specs.Prelude.{Vec}
use Rattle.std.specs.declared.alloc.Global.{Global}
use Rattle.fnc_switch.proofs.ReadsBack.{reads_back}
use Rattle.fnc_switch.proofs.switch.switch_text.Goals as goal

pub returns-clause-reads_back : goal.returns-clause-reads_back
returns-clause-reads_back c =
    reads_back c.args.switch.now c.from_vec.result (rw c.as_slice.ensures.plugs at c.as_slice.ensures.bounded)
    (c.from_vec.ensures ∙ ap (λ (v : Vec ℕ Global). v.items) c.into_bytes.ensures.value
    ∙ rw c.as_slice.ensures.plugs at c.in_ok-plugs_text.ensures)
