-- Where no operation is open, no request waits.
use Rattle.fnc_answered.proofs.Nothing.{each_is_answered, as_many, by_what_they_say}
use Rattle.fnc_answered.proofs.law.all_are_answered.Goals as goal

pub returns-clause-answered : goal.returns-clause-answered
returns-clause-answered c = each_is_answered

pub returns-clause-counted : goal.returns-clause-counted
returns-clause-counted c = as_many

pub returns-clause-told : goal.returns-clause-told
returns-clause-told c = by_what_they_say
