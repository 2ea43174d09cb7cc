-- Each part of the index sees the entry.
use Rattle.std.proofs.Common.{ℕ, ◌≡◌, ◌∙◌, ◌<◌, ap, arith, length, Option}
use Rattle.fnc_journal.specs.declared.entry.Entry.{Entry}
use Rattle.fnc_journal.specs.Heads.{lowers_below}
use Rattle.fnc_journal.proofs.index.Index.enter.Goals as goal

pub returns : goal.returns
returns c = λ limit moment h l b p q i.
    let e : Entry = record { moment = moment; event = c.args.event.now } in
    let room : length h < limit = omega arith in
    record {
      firsts = c.enter.ensures limit moment h l b i.firsts;
      chains = c.enter-2.ensures limit e h l b p i.chains;
      lanes = c.enter-3.ensures limit e h l b (c.lowers.ensures ∙ ap (λ (m : Option ℕ). lowers_below m c.args.event.now) q) i.lanes;
      homes = c.enter-4.ensures limit moment h room q i.homes;
    }
