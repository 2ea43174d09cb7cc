-- What an entry that is in order says of a request and of a change.
use Rattle.std.proofs.Common.{true, ◌≡◌, leb-true}
use Rattle.std.specs.Prelude.{◌==◌, nat_le}
use Rattle.std.proofs.lemmas.Bool.{and_parts}
use Rattle.fnc_journal.specs.declared.event.Event.{Event}
use Rattle.fnc_journal.specs.declared.event.Request.{Request}
use Rattle.fnc_journal.specs.declared.limits.TheConstants.{DAY}
use Rattle.fnc_journal.specs.History.{History}
use Rattle.fnc_journal.specs.Found.{asks}
use Rattle.fnc_journal.specs.Lawful.{in_order, may_ask}
use Rattle.fnc_journal.specs.Levels.{is_in_place}
use Rattle.fnc_driver.specs.Askable.{IsAskable}

-- a request that is in order may be asked
pub askable : (q : Request) (h : History) → in_order (Event.Ask q) h ≡ true →
    IsAskable (record { client = q.client; kind = q.kind; target = q.target; total = q.total; coin = q.coin }) q.scope h
askable q h p =
    let a4 = and_parts _ (is_in_place q.scope q.target h) p in
    let a3 = and_parts _ (nat_le q.total DAY) a4.0 in
    let a2 = and_parts _ (nat_le 1 q.total) a3.0 in
    let a1 = and_parts (q.req.0 == asks h) (may_ask q.kind) a2.0 in
    record {
      kind = a1.1;
      some_time = leb-true 1 q.total a2.1;
      most_time = leb-true q.total DAY a3.1;
      in_place = a4.1;
    }
