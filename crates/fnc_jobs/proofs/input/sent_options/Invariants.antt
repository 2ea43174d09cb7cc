use Rattle.std.proofs.Common.{◌≡◌, take}
use Rattle.std.specs.Prelude.{filter}
use Rattle.fnc_jobs.specs.Inputs.{is_sent}
use Rattle.fnc_jobs.proofs.input.sent_options.Given as goal

-- the options so far that are sent
abbrev pub invariant-loop-option : goal.invariant-loop-option
invariant-loop-option l = l.sent ≡ filter (λ o. is_sent o.name) (take l.option-index l.own)
