-- A start, and the job that its agent is run with.
use Rattle.std.specs.Prelude.{◌≡◌, IsTrue, is_some}
use Rattle.fnc_journal.specs.Startable.{first}
use Rattle.fnc_core.specs.declared.change.Started.{Started}
use Rattle.fnc_core.specs.Cored.{Cored, Starts}
use Rattle.fnc_jobs.specs.declared.job.Job.{Job}
use Rattle.fnc_jobs.specs.JobOf.{IsJobOf}

-- the first try that may start was started, and this is its job
pub record StartsWith (old new : Cored) (job : Job) : Type 0 where
  pub started : Started
  pub starts : Starts old new started
  pub is_job : IsJobOf old.history old.last started job

-- a try may start, and none was started
pub record WantsStart (old new : Cored) : Type 0 where
  pub startable : IsTrue (is_some (first old.history old.last))
  pub unchanged : new ≡ old
