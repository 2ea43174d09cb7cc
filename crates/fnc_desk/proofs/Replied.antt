-- What replies leave as it was: how many inputs there are, and what is configured.
use Rattle.std.proofs.Common.{ℕ, [], ◌∷◌, ◌++◌, true, ◌≡◌, refl}
use Rattle.fnc_journal.specs.declared.entry.Answer.{Answer}
use Rattle.fnc_journal.specs.declared.event.Event.{Event}
use Rattle.fnc_journal.specs.declared.entry.Req.{Req}
use Rattle.fnc_journal.specs.History.{History}
use Rattle.fnc_journal.specs.Found.{is_reply}
use Rattle.fnc_journal.specs.Served.{AreReplies}
use Rattle.fnc_journal.proofs.Closing.{reply}
use Rattle.fnc_command.specs.declared.command.Mode.{Mode}
use Rattle.fnc_config.specs.Configured.{configured}
use Rattle.fnc_desk.specs.Inputs.{inputs}

-- what each reply keeps, replies keep
pub kept-replies : (P : History → Type 0) (m : ℕ) (rs h : History) → AreReplies m rs →
    ((n : ℕ) (req : Req) (answer : Answer) (g : History) → P g → P (reply n req answer ∷ g)) → P h → P (rs ++ h)
kept-replies P m [] h a keeps p = p
kept-replies P m (r ∷ rs) h a keeps p = go r.event a.0.0 (kept-replies P m rs h a.1 keeps p)
  where
    go : (event : Event) → is_reply event ≡ true → P (rs ++ h) →
        P (record { moment = r.moment; event = event } ∷ (rs ++ h))
    go (Event.Reply reply) e rest = keeps r.moment reply.req reply.answer (rs ++ h) rest
    go (Event.Device device) e rest = cc
    go (Event.Gone reg) e rest = cc
    go (Event.Level set) e rest = cc
    go (Event.LevelGone cleared) e rest = cc
    go (Event.Agent described) e rest = cc
    go (Event.Ask ask) e rest = cc
    go (Event.Exit ended) e rest = cc
    go Event.Pass e rest = cc
    go (Event.Confirm confirmation) e rest = cc
    go (Event.Refused refusal) e rest = cc
    go (Event.Start start) e rest = cc

module _ (m : ℕ) (rs h : History) (a : AreReplies m rs) where
  pub inputs-replied : (mode : Mode) → inputs mode (rs ++ h) ≡ inputs mode h
  inputs-replied mode = kept-replies (λ g. inputs mode g ≡ inputs mode h) m rs h a (λ n req answer g e. step mode n req answer g e) refl
    where
      step : (mode : Mode) (n : ℕ) (req : Req) (answer : Answer) (g : History) → inputs mode g ≡ inputs mode h →
          inputs mode (reply n req answer ∷ g) ≡ inputs mode h
      step Mode.Timed n req answer g e = e
      step Mode.Live n req answer g e = e

  pub configured-replied : configured (rs ++ h) ≡ configured h
  configured-replied = kept-replies (λ g. configured g ≡ configured h) m rs h a (λ n req answer g e. e) refl
