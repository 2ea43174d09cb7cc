use Rattle.std.proofs.Common.{◌≡◌, ℕ, List, Some, Ok, Err, Result, ap, sym, ◌∙◌, subst}
use Rattle.std.specs.Prelude.{IfOk}
use Rattle.fnc_journal.specs.declared.outcome.NoMemory.{NoMemory}
use Rattle.fnc_journal.specs.declared.definition.Registration.{Registration}
use Rattle.fnc_journal.specs.declared.event.Request.{Request}
use Rattle.fnc_journal.specs.Found.{registration, request}
use Rattle.fnc_journal.specs.History.{History}
use Rattle.fnc_core.specs.declared.change.Started.{Started}
use Rattle.fnc_core.specs.Between.{start_of}
use Rattle.fnc_core.specs.Cored.{IsFirstStart}
use Rattle.fnc_jobs.specs.declared.job.Job.{Job}
use Rattle.fnc_jobs.specs.JobOf.{IsJobOf, job_with}
use Rattle.fnc_jobs.proofs.FirstJobs.{is-registered, is-requested, job-is}
use Rattle.fnc_jobs.proofs.WithinBounds.{registration-within, request-within}
use Rattle.fnc_jobs.proofs.job.job_of.Goals as goal

pub registration_of-registration-requires : goal.registration_of-registration-requires
registration_of-registration-requires c =
    is-registered c.args.journal.now.history c.args.last c.args.started.now c.requires.first

pub request_of-request-requires : goal.request_of-request-requires
request_of-request-requires c =
    is-requested c.args.journal.now.history c.args.last c.args.started.now c.requires.first

pub job_on-requires-clause-bounded : goal.job_on-requires-clause-bounded
job_on-requires-clause-bounded c =
    registration-within c.args.journal.now.history c.args.started.now.reg.0 c.registration_of-registration.result.now
    c.requires.within c.registration_of-registration.ensures

pub job_on-requires-clause-named : goal.job_on-requires-clause-named
job_on-requires-clause-named c =
    rw c.as_str.ensures (request-within c.args.journal.now.history c.args.started.now.req.0
    c.request_of-request.result.now c.requires.within c.request_of-request.ensures)

-- the job that was made is that of the start
made : (h : History) (m : ℕ) (s : Started) (f : IsFirstStart h m s) (g : Registration) (q : Request)
    (target : List ℕ) → registration s.reg.0 h ≡ Some g → request s.req.0 h ≡ Some q → target ≡ q.target →
    (r : Result Job NoMemory) → IfOk r (λ job. job ≡ job_with m (start_of s) g target s.limit) →
    IfOk r (IsJobOf h m s)
made h m s f g q target e k t (Ok job) j =
    subst (IsJobOf h m s) (ap (λ x. job_with m (start_of s) g x s.limit) (sym t) ∙ sym j) (job-is h m s f g q e k)
made h m s f g q target e k t (Err want) j = tt

pub returns : goal.returns
returns c =
    made c.args.journal.now.history c.args.last c.args.started.now c.requires.first
    c.registration_of-registration.result.now c.request_of-request.result.now c.as_str.result.now
    c.registration_of-registration.ensures c.request_of-request.ensures c.as_str.ensures c.job_on.result
    c.job_on.ensures
