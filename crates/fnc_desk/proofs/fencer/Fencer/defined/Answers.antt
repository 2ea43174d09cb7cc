use Rattle.fnc_desk.proofs.fencer.Fencer.defined.Goals as goal

pub returns-in_ok-define-in-Some-clause-bounded : goal.returns-in_ok-define-in-Some-clause-bounded
returns-in_ok-define-in-Some-clause-bounded c = c.in_ok-define-in-Some.ensures.bounded c.in-Some.ensures.bounded
