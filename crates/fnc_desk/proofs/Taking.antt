-- How an entry comes in: at the last moment it finds the journal as it stands; after an advance to its moment, the
-- journal with the replies that the advance gave.
use Rattle.std.proofs.Common.{ℕ, ◌++◌, ◌≡◌, ◌≤◌, false, refl, ap, sym, ◌∙◌, subst, Ok, Err, arith}
use Rattle.std.specs.Prelude.{Result, OnOk, OnErr, IfErr}
use Rattle.std.specs.Result.{IsErrAnd}
use Rattle.fnc_journal.specs.declared.cause.Cause.{Cause}
use Rattle.fnc_journal.specs.declared.entry.Entry.{Entry}
use Rattle.fnc_journal.specs.declared.event.Event.{Event}
use Rattle.fnc_journal.specs.declared.outcome.Full.{Full}
use Rattle.fnc_journal.specs.History.{History}
use Rattle.fnc_core.specs.Cored.{Advances, Cored, Enters, IsFull}
use Rattle.fnc_desk.specs.Entered.{Lacks, Takes}
use Rattle.fnc_desk.specs.Inputs.{is_exit, refused}

-- nothing is given at the last moment
pub nothing-given : (old new : Cored) (a : Advances old new old.last) → a.advance ++ old.history ≡ old.history
nothing-given old new a = ap (λ (h : History). h ++ old.history) (a.still refl)

-- so the core is what it was
pub unmoved : (old new : Cored) → Advances old new old.last → new ≡ old
unmoved old new a =
    let history : new.history ≡ old.history = a.history ∙ nothing-given old new a in
    rw (history, a.last, a.limit) refl

-- an entry at the last moment finds the journal as it stands
pub takes-now : (P : History → Entry → Type 0) (old new : Cored) (event : Event) (need : ℕ) →
    Enters old new old.last event need → (is_exit event ≡ false → 1 ≤ need) →
    P old.history (record { moment = old.last; event = event }) → Takes P old new
takes-now P old new event need enters needs p = record {
  entry = record { moment = old.last; event = event };
  need = need;
  later = omega arith;
  enters = enters;
  needs = needs;
  is =
      subst (λ (h : History). P h (record { moment = old.last; event = event }))
      (sym (nothing-given old enters.advanced enters.advances)) p;
}

pub lacks-now : (P : History → Entry → Type 0) (old new : Cored) (event : Event) (full : Full) →
    Advances old new old.last → is_exit event ≡ false → IsFull new 1 full →
    P old.history (record { moment = old.last; event = event }) → Lacks P old new full
lacks-now P old new event full a no_exit is_full p = record {
  entry = record { moment = old.last; event = event };
  later = omega arith;
  advances = a;
  no_exit = no_exit;
  is = subst (λ (h : History). P h (record { moment = old.last; event = event })) (sym (nothing-given old new a)) p;
  is_full = is_full;
}

-- what advances at the moment to which the core advanced gives no more replies
pub advances-after : (old mid new : Cored) (m : ℕ) → Advances old mid m → Advances mid new m → Advances old new m
advances-after old mid new m a b = record {
  advance = a.advance;
  at_once = a.at_once;
  still = a.still;
  history = b.history ∙ ap (λ (h : History). h ++ mid.history) (b.still a.last) ∙ a.history;
  last = b.last;
  limit = b.limit ∙ a.limit;
  sound = b.sound;
}

-- and what enters then enters after that advance
pub enters-after : (old mid new : Cored) (m : ℕ) (event : Event) (need : ℕ) → Advances old mid m →
    Enters mid new m event need → Enters old new m event need
enters-after old mid new m event need a e = record {
  advanced = e.advanced;
  advances = advances-after old mid e.advanced m a e.advances;
  has_room = e.has_room;
  follows = e.follows;
}

-- the journal that such an entry finds is the one after the advance
found-after : (old mid new : Cored) (m : ℕ) (a : Advances old mid m) (b : Advances mid new m) →
    b.advance ++ mid.history ≡ a.advance ++ old.history
found-after old mid new m a b = ap (λ (h : History). h ++ mid.history) (b.still a.last) ∙ a.history

pub takes-after : (P Q : History → Entry → Type 0) (old mid new : Cored) (m : ℕ) → old.last ≤ m → Advances old mid m →
    ((h : History) (e : Entry) → P h e → e.moment ≡ m) → ((h : History) (e : Entry) → P h e → Q h e) →
    Takes P mid new → Takes Q old new
unfolding enters-after advances-after
takes-after P Q old mid new m later a moment maps t =
    go t.entry.moment (moment (t.enters.advances.advance ++ mid.history) t.entry t.is) refl
  where
    go : (n : ℕ) → n ≡ m → t.entry.moment ≡ n → Takes Q old new
    go n e q =
        let same : m ≡ t.entry.moment = sym (q ∙ e) in
        let b : Advances old mid t.entry.moment = subst (λ k. Advances old mid k) same a in
        record {
          entry = t.entry;
          need = t.need;
          later = subst (λ k. old.last ≤ k) same later;
          enters = enters-after old mid new t.entry.moment t.entry.event t.need b t.enters;
          needs = t.needs;
          is =
              subst (λ (h : History). Q h t.entry)
              (found-after old mid t.enters.advanced t.entry.moment b t.enters.advances)
              (maps (t.enters.advances.advance ++ mid.history) t.entry t.is);
        }

pub lacks-after : (P Q : History → Entry → Type 0) (old mid new : Cored) (full : Full) (m : ℕ) → old.last ≤ m →
    Advances old mid m → ((h : History) (e : Entry) → P h e → e.moment ≡ m) →
    ((h : History) (e : Entry) → P h e → Q h e) → Lacks P mid new full → Lacks Q old new full
unfolding advances-after
lacks-after P Q old mid new full m later a moment maps t =
    go t.entry.moment (moment (t.advances.advance ++ mid.history) t.entry t.is) refl
  where
    go : (n : ℕ) → n ≡ m → t.entry.moment ≡ n → Lacks Q old new full
    go n e q =
        let same : m ≡ t.entry.moment = sym (q ∙ e) in
        let b : Advances old mid t.entry.moment = subst (λ k. Advances old mid k) same a in
        record {
          entry = t.entry;
          later = subst (λ k. old.last ≤ k) same later;
          advances = advances-after old mid new t.entry.moment b t.advances;
          no_exit = t.no_exit;
          is =
              subst (λ (h : History). Q h t.entry) (found-after old mid new t.entry.moment b t.advances)
              (maps (t.advances.advance ++ mid.history) t.entry t.is);
          is_full = t.is_full;
        }

-- what one entry is, another is
pub takes-as : (P Q : History → Entry → Type 0) (old new : Cored) → ((h : History) (e : Entry) → P h e → Q h e) →
    Takes P old new → Takes Q old new
takes-as P Q old new maps t = record {
  entry = t.entry;
  need = t.need;
  later = t.later;
  enters = t.enters;
  needs = t.needs;
  is = maps (t.enters.advances.advance ++ old.history) t.entry t.is;
}

pub lacks-as : (P Q : History → Entry → Type 0) (old new : Cored) (full : Full) →
    ((h : History) (e : Entry) → P h e → Q h e) → Lacks P old new full → Lacks Q old new full
lacks-as P Q old new full maps t = record {
  entry = t.entry;
  later = t.later;
  advances = t.advances;
  no_exit = t.no_exit;
  is = maps (t.advances.advance ++ old.history) t.entry t.is;
  is_full = t.is_full;
}

-- a line that is refused at the last moment, by what a call answers
pub takes-refused : (old new : Cored) (number : ℕ) (cause : Cause) (r : Result (Unit {0}) Full) →
    OnOk r (Enters old new old.last (Event.Refused (record { line = number; cause = cause })) 1) →
    OnOk r (Takes (λ h e. e ≡ refused old.last number cause) old new)
takes-refused old new number cause (Err full) e = tt
takes-refused old new number cause (Ok u) e =
    takes-now (λ h e. e ≡ refused old.last number cause) old new
    (Event.Refused (record { line = number; cause = cause })) 1 e (λ q. omega arith) refl

pub lacks-refused : (old new : Cored) (number : ℕ) (cause : Cause) (r : Result (Unit {0}) Full) →
    OnErr r (Advances old new old.last) → IfErr r (IsFull new 1) →
    IfErr r (Lacks (λ h e. e ≡ refused old.last number cause) old new)
lacks-refused old new number cause (Ok u) a f = tt
lacks-refused old new number cause (Err full) a f =
    lacks-now (λ h e. e ≡ refused old.last number cause) old new
    (Event.Refused (record { line = number; cause = cause })) full a refl f refl

-- the same, where the moment is the last one
pub unmoved-at : (old new : Cored) (m : ℕ) → m ≡ old.last → Advances old new m → new ≡ old
unmoved-at old new m is a = unmoved old new (subst (λ (n : ℕ). Advances old new n) is a)

-- what holds of an error holds of one that is passed on
pub err-is : {X E : Type 0} (P : E → Type 0) (x : E) (r : Result X E) → IsErrAnd r (λ e. e ≡ x) → P x → IfErr r P
err-is P x (Ok u) is p = tt
err-is P x (Err e) is p = subst P (sym is) p
