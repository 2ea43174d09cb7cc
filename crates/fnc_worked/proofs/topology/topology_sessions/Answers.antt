use Rattle.std.proofs.Common.{refl}
use Rattle.std.specs.Fmt.{digits}
use Rattle.fnc_worked.specs.Topology as Topology
use Rattle.fnc_worked.proofs.Verdicts.{replay}
use Rattle.fnc_worked.proofs.topology.topology_sessions.Goals as goal

pub returns : goal.returns
unfolding digits
returns c = record {
  no_reuse = replay Topology.no_reuse refl refl refl refl;
  unfit = replay Topology.unfit refl refl refl refl;
  unfit_alone = replay Topology.unfit_alone refl refl refl refl;
  snapshot = replay Topology.snapshot refl refl refl refl;
  patterns = replay Topology.patterns refl refl refl refl;
  pattern_order = replay Topology.pattern_order refl refl refl refl;
  lacks_on = replay Topology.lacks_on refl refl refl refl;
}
