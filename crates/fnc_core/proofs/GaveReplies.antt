-- One more reply among those that were due.
use Rattle.std.proofs.Common.{ℕ, ◌∷◌, ◌++◌, true, false, ◌≡◌, refl, ap, ◌∙◌}
use Rattle.fnc_journal.specs.declared.event.Event.{Event}
use Rattle.fnc_journal.specs.Operations.{settled}
use Rattle.fnc_core.specs.Between.{AddsReply, GaveReplies, entry}
use Rattle.fnc_core.specs.Parted.{Parted}

-- where nothing was due at first, nothing is due after no reply
pub gave-more : (m : ℕ) (first old new : Parted) → GaveReplies m first old → AddsReply m old new →
    settled old.history m ≡ false → GaveReplies m first new
gave-more m first old new g a u = record {
  replies = entry m (Event.Reply (record { req = a.req; answer = a.answer })) ∷ g.replies;
  are = ((refl, refl), g.are);
  history = a.adds.history ∙ ap (λ h. entry m (Event.Reply (record { req = a.req; answer = a.answer })) ∷ h) g.history;
  limit = a.adds.limit ∙ g.limit;
  none = λ s.
      let same : old.history ≡ first.history = g.history ∙ ap (λ rs. rs ++ first.history) (g.none s) in
      let still : settled old.history m ≡ true = ap (λ h. settled h m) same ∙ s in
      cc;
}
