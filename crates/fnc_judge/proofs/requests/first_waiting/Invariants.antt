use Rattle.std.proofs.Common.{◌≡◌, None}
use Rattle.fnc_journal.specs.Prefix.{prefix}
use Rattle.fnc_judge.specs.Opened.{waiting}
use Rattle.fnc_judge.proofs.requests.first_waiting.Given as goal

-- none of the requests so far waits
abbrev pub invariant-loop-i : goal.invariant-loop-i
invariant-loop-i l = waiting l.past l.req (prefix l.i l.past) ≡ None
