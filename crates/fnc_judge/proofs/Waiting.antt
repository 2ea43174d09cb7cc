-- The first request that waits and the first open operation that passes, sought from the oldest entry on.
use Rattle.std.proofs.Common.{ℕ, ◌∷◌, Bool, ◌≡◌, ◌∙◌, sym, ap, Option, Some, None}
use Rattle.std.specs.Prelude.{find}
use Rattle.fnc_journal.specs.declared.entry.Entry.{Entry}
use Rattle.fnc_journal.specs.History.{History}
use Rattle.fnc_search.specs.Pursued.{Pursued}
use Rattle.fnc_search.proofs.Searches.{Keeps, or-first, or-kept}
use Rattle.fnc_judge.specs.Opened.{waiting, waiting_here, opened, opens, found_after}
use Rattle.fnc_judge.proofs.Opening.{waiting-more, found-more}

-- the first request that waits
pub waiting-first : (all : History) (o : ℕ) (e : Entry) (before : History) (x : Option ℕ) →
    waiting all o before ≡ None → waiting_here all o e.event ≡ x → waiting all o (e ∷ before) ≡ x
waiting-first all o e before x none here =
    sym (waiting-more all o e.moment e.event before)
    ∙ or-first (waiting all o before) (waiting_here all o e.event) x none here

pub waiting-kept : (all : History) (o n : ℕ) → Keeps (waiting all o) (Some n)
waiting-kept all o n e before p =
    sym (waiting-more all o e.moment e.event before) ∙ or-kept n (waiting all o before) (waiting_here all o e.event) p

-- the first open operation that passes
pub open-first : (p : Pursued → Bool) (all : History) (e : Entry) (before : History) (x : Option Pursued) →
    find p (opens all before) ≡ None → found_after p None (opened all e.event) ≡ x →
    find p (opens all (e ∷ before)) ≡ x
open-first p all e before x none here =
    sym (found-more p (opens all before) (opened all e.event))
    ∙ ap (λ (a : Option Pursued). found_after p a (opened all e.event)) none ∙ here

pub open-kept : (p : Pursued → Bool) (all : History) (f : Pursued) →
    Keeps (λ (h : History). find p (opens all h)) (Some f)
open-kept p all f e before q =
    sym (found-more p (opens all before) (opened all e.event))
    ∙ ap (λ (a : Option Pursued). found_after p a (opened all e.event)) q
