use Rattle.std.proofs.Common.{◌≡◌}
use Rattle.fnc_journal.specs.Prefix.{prefix}
use Rattle.fnc_config.specs.Planning.{kept_among}
use Rattle.fnc_config.proofs.kept.last_kept.Given as goal

-- the newer entries say nothing, and are not past
abbrev pub invariant-loop-index : goal.invariant-loop-index
invariant-loop-index l =
    let h = l.journal.history in
    kept_among h l.reg.0 l.target l.keep l.moment (prefix l.index h) ≡ kept_among h l.reg.0 l.target l.keep l.moment h
