-- The job of a start: what the agent of its device is run with.
use Rattle.std.specs.Prelude.{ℕ, List, ◌∷◌, ◌-◌, ◌≡◌, Option, Some, option_map, option_and_then}
use Rattle.fnc_journal.specs.declared.definition.Registration.{Registration}
use Rattle.fnc_journal.specs.declared.event.Event.{Event}
use Rattle.fnc_journal.specs.declared.event.Start.{Start}
use Rattle.fnc_journal.specs.History.{History}
use Rattle.fnc_journal.specs.Found.{registration}
use Rattle.fnc_journal.specs.Device.{allowed}
use Rattle.fnc_journal.specs.Slots.{Task, Operation}
use Rattle.fnc_journal.specs.Acts.{acts, limit}
use Rattle.fnc_journal.specs.Operations.{operation}
use Rattle.fnc_core.specs.Between.{entry, start_of}
use Rattle.fnc_core.specs.declared.change.Started.{Started}
use Rattle.fnc_jobs.specs.declared.job.Job.{Job}
use Rattle.fnc_jobs.specs.Inputs.{input}

-- a start at a moment, on a device for a node, after which an exit no longer counts at this limit
abbrev pub job_with : ℕ → Start → Registration → List ℕ → ℕ → Job
job_with m s g target at = record {
  run = s.run;
  program = g.agent;
  device = g.name;
  kind = s.kind;
  word = (allowed g.definition s.kind).word;
  target = target;
  limit_ms = at - m;
  input = input g.definition s.kind target;
}

-- the slot of a start on a device
abbrev pub task_of : Start → Registration → Task
task_of s g = record { slot = s.slot; reg = s.reg.0; definition = g.definition; kind = s.kind }

-- on a device, for an operation: the limit is that of the slot, with the start counted among its runs
abbrev pub job_for : History → ℕ → Start → Registration → Operation → Option Job
job_for h m s g o = option_map (job_with m s g o.target) (limit (task_of s g) o.over (acts s.req.0 h))

-- the job of the start at a moment that is the newest entry of a journal
abbrev pub job_in : History → ℕ → Start → Option Job
job_in h m s =
    option_and_then (λ g. option_and_then (job_for h m s g) (operation s.req.0 h)) (registration s.reg.0 h)

-- the job of a start that is made in a journal at a moment
abbrev pub IsJobOf : History → ℕ → Started → Job → Type 0
IsJobOf h m s job = job_in (entry m (Event.Start (start_of s)) ∷ h) m (start_of s) ≡ Some job
