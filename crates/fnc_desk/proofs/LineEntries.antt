-- What a line says is done at its moment: what a command calls for at the last moment is what its line gives.
use Rattle.std.proofs.Common.{ℕ, List, ◌≡◌, ◌⊎◌, true, false, refl, ap, sym, ◌∙◌, subst, inl, inr, Option, Some, None, Result, Ok, Err, nat_lt, arith}
use Rattle.std.specs.Prelude.{OnOk, OnErr, IfErr}
use Rattle.fnc_journal.specs.declared.cause.Cause.{Cause}
use Rattle.fnc_journal.specs.declared.entry.Entry.{Entry}
use Rattle.fnc_journal.specs.declared.event.Event.{Event}
use Rattle.fnc_journal.specs.declared.outcome.Full.{Full}
use Rattle.fnc_journal.specs.History.{History}
use Rattle.fnc_command.specs.declared.command.Command.{Command}
use Rattle.fnc_command.specs.declared.command.ExitRead.{ExitRead}
use Rattle.fnc_command.specs.declared.command.Read.{Read}
use Rattle.fnc_command.specs.Lines.{exit_at, exit_said}
use Rattle.fnc_core.specs.Cored.{Advances, Cored, Enters, HasRoom, IsFull, Sound}
use Rattle.fnc_core.proofs.Following.{advances-none}
use Rattle.fnc_desk.specs.Called.{Called, CallsFor}
use Rattle.fnc_desk.specs.declared.entering.Given.{Given}
use Rattle.fnc_desk.specs.Entered.{Lacks, Takes}
use Rattle.fnc_desk.specs.Inputs.{GivesCommand, GivesIfPast, GivesNow, GivesOther, GivesRead, entry_of, moment_in, read_of, refused}
use Rattle.fnc_desk.specs.Obeyed.{Obeys}
use Rattle.fnc_desk.proofs.Taking.{lacks-now, takes-now, unmoved}

-- what stands in place of a command stands at its moment
entry-moment : (m n : ℕ) (called : Called) → (entry_of m n called).moment ≡ m
entry-moment m n (Ok event) = refl
entry-moment m n (Err cause) = refl

pub now-moment : (v : Cored) (coin n : ℕ) (command : Command) (h : History) (e : Entry) →
    GivesNow v coin command n h e → e.moment ≡ v.last
now-moment v coin n command h e g = ap (λ (d : Entry). d.moment) g.is ∙ entry-moment v.last n g.called

pub other-moment : (v : Cored) (coin n : ℕ) (command : Command) (h : History) (e : Entry) →
    GivesOther v coin command n h e → e.moment ≡ v.last
other-moment v coin n command h e (inl g) = now-moment v coin n command h e g
other-moment v coin n command h e (inr k) = ap (λ (d : Entry). d.moment) k

-- a command that is obeyed gives its entry
pub takes-obeyed : (old new : Cored) (coin n : ℕ) (command : Command) (IsCalled : Called → Type 0) →
    ((c : Called) → IsCalled c → CallsFor old coin command c) → Obeys IsCalled old new →
    Takes (GivesNow old coin command n) old new
takes-obeyed old new coin n command IsCalled maps o =
    takes-now (GivesNow old coin command n) old new o.event o.need o.enters o.needs
    (record { called = Ok o.event; calls = maps (Ok o.event) o.called; is = refl })

-- one that is refused gives the refusal
refusal : Event → Type 0
refusal event = Unit {0}

pub takes-refused_now : (old mid new : Cored) (P : History → Entry → Type 0) (n : ℕ) (cause : Cause)
    (r : Result (Unit {0}) Full) → mid ≡ old → P old.history (refused old.last n cause) →
    OnOk r (Enters mid new mid.last (Event.Refused (record { line = n; cause = cause })) 1) → OnOk r (Takes P old new)
takes-refused_now old mid new P n cause (Err full) same p e = tt
takes-refused_now old mid new P n cause (Ok u) same p e =
    takes-now P old new (Event.Refused (record { line = n; cause = cause })) 1
    (subst (λ (v : Cored). Enters v new v.last (Event.Refused (record { line = n; cause = cause })) 1) same e)
    (λ q. omega arith) p

pub lacks-refused_now : (old mid new : Cored) (P : History → Entry → Type 0) (n : ℕ) (cause : Cause)
    (r : Result (Unit {0}) Full) → mid ≡ old → P old.history (refused old.last n cause) →
    OnErr r (Advances mid new mid.last) → IfErr r (IsFull new 1) → IfErr r (Lacks P old new)
lacks-refused_now old mid new P n cause (Ok u) same p a f = tt
lacks-refused_now old mid new P n cause (Err full) same p a f =
    lacks-now P old new (Event.Refused (record { line = n; cause = cause })) full
    (subst (λ (v : Cored). Advances v new v.last) same a) refl f p

-- a refusal is what its command gives
pub refused-given : (old : Cored) (coin n : ℕ) (command : Command) (cause : Cause) →
    CallsFor old coin command (Err cause) → GivesNow old coin command n old.history (refused old.last n cause)
refused-given old coin n command cause c = record { called = Err cause; calls = c; is = refl }

pub denied-given : (old : Cored) (coin n : ℕ) (command : Command) (cause : Cause) →
    (cause ≡ Cause.NoMemory) ⊎ CallsFor old coin command (Err cause) →
    GivesOther old coin command n old.history (refused old.last n cause)
denied-given old coin n command cause (inl k) = inr (ap (refused old.last n) k)
denied-given old coin n command cause (inr c) = inl (refused-given old coin n command cause c)

-- a command finds no room at all
pub lacks-room : (old : Cored) (coin n : ℕ) (command : Command) (r : Result (Unit {0}) Full) → Sound old →
    IfErr r (IsFull old 1) → IfErr r (Lacks (GivesOther old coin command n) old old)
lacks-room old coin n command (Ok u) s f = tt
lacks-room old coin n command (Err full) s f =
    lacks-now (GivesOther old coin command n) old old
    (Event.Refused (record { line = n; cause = Cause.NoMemory })) full (advances-none old old.last refl s) refl f
    (inr refl)

-- there was room, so the entry came
pub entered-room : (old new : Cored) (event : Event) (r : Result (Unit {0}) Full) → HasRoom old 1 →
    OnOk r (Enters old new old.last event 1) → IfErr r (IsFull new 1) → OnErr r (Advances old new old.last) →
    Enters old new old.last event 1
entered-room old new event (Ok u) room e f a = e
entered-room old new event (Err full) room e f a =
    let full_then = subst (λ (v : Cored). IsFull v 1 full) (unmoved old new a) f in
    absurd (omega (arith, room, full_then.above))

-- a line whose moment is past is refused
pub past-given : (given : Given) (read : Read) (h : History) (last limit n : ℕ) (e : Entry) →
    nat_lt (moment_in given read) last ≡ true → e ≡ refused last n Cause.PastMoment →
    GivesRead given (Ok read) h last limit n e
past-given given read h last limit n e past k =
    subst (λ b. GivesIfPast b given read h last limit n e) (sym past) k

-- what its command calls for at its moment is what another line gives
pub now-given : (given : Given) (read : Read) (v : Cored) (h : History) (last limit n : ℕ) (e : Entry) →
    v.last ≡ moment_in given read → v.limit ≡ limit → nat_lt (moment_in given read) last ≡ false →
    GivesNow v given.coin read.command n h e → GivesRead given (Ok read) h last limit n e
now-given given read v h last limit n e at same later g =
    subst (λ b. GivesIfPast b given read h last limit n e) (sym later)
    (subst (λ m. GivesCommand (record { history = h; last = m; limit = limit }) given.coin read.command n e) at
    (subst (λ l. GivesCommand (record { history = h; last = v.last; limit = l }) given.coin read.command n e) same g))

-- two that are given are one
exit-same : (x y : ExitRead × List ℕ) → Some x ≡ Some y → x ≡ y
exit-same x y e = cc

-- an exit that was read is what its line says
abbrev pub reads : Read → Result Read Cause
reads read = Ok read

pub exit-read : (line : Result Read Cause) (exit : ExitRead) (output : List ℕ) →
    exit_said line ≡ Some (exit, output) → line ≡ reads (read_of exit output)
exit-read (Err cause) exit output e = cc
exit-read (Ok read) exit output e = go read.command read.moment e
  where
    go : (command : Command) (moment : Option ℕ) → exit_at command moment ≡ Some (exit, output) →
        reads (record { moment = moment; command = command }) ≡ reads (read_of exit output)
    go (Command.Exit run ended bytes) (Some m) e =
        ap (λ (p : ExitRead × List ℕ). reads (read_of p.0 p.1))
        (exit-same (record { moment = m; run = run; exit = ended }, bytes) (exit, output) e)
    go (Command.Exit run ended bytes) None e = cc
    go (Command.Device name agent options) moment e = cc
    go (Command.Remove name) moment e = cc
    go (Command.Level target index devices) moment e = cc
    go (Command.Unlevel target index) moment e = cc
    go (Command.Agent name json) moment e = cc
    go (Command.Ask client kind target total coin) moment e = cc
    go Command.Pass moment e = cc
    go (Command.Confirm client target) moment e = cc
