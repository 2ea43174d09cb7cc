use Rattle.std.proofs.Common.{◌≡◌, ◌++◌, ℕ, List, [], Result, Ok, Err, Some, OnErr, take, drop}
use Rattle.std.proofs.Common.{append-nil, take-append-drop, ap, sym, ◌∙◌}
use Rattle.fnc_outside.specs.Stored.{Stored}
use Rattle.fnc_outside.specs.Writes.{HoldsPart}
use Rattle.fnc_outside.proofs.memory_sink.MemorySinkSink.flush.Goals as goal

-- what follows the bytes that were sent on is lost
holds-sent : {A E : Type 0} (result : Result A E) (old new : List ℕ) (sent : ℕ) → new ≡ take sent old →
    OnErr result (HoldsPart (Some old) (Some new) [])
holds-sent (Ok done) old new sent is = tt
holds-sent (Err failed) old new sent is = record {
  lost = drop sent old;
  holds = append-nil old ∙ sym (take-append-drop sent old) ∙ ap (λ bytes. bytes ++ drop sent old) (sym is);
}

pub returns-then-fails-clause-err : goal.returns-then-fails-clause-err
returns-then-fails-clause-err c =
    let held : Stored → List ℕ = λ sink. sink.held in
    rw (← c.self.view_is)
    (holds-sent _ _ _ c.self.inside.sent (ap held c.fail.ensures.counts ∙ c.truncate.ensures.items))
