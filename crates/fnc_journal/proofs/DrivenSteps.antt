-- How a session of lines keeps its journal Driven: each input is served in full before the next.
use Rattle.std.proofs.Common.{
  ℕ,
  List,
  [],
  ◌∷◌,
  ◌++◌,
  Bool,
  true,
  false,
  ◌≡◌,
  ◌<◌,
  refl,
  ap,
  ◌∙◌,
  Option,
  Some,
  None,
  IsTrue,
  arith,
  ◌==◌,
  ◌&&◌,
  cond,
  eq-eqb,
  eqb-true,
  nat_lt,
  lt-ltb,
  le-ltb,
}
use Rattle.fnc_journal.specs.declared.entry.Entry.{Entry}
use Rattle.fnc_journal.specs.declared.event.Event.{Event}
use Rattle.fnc_journal.specs.History.{History}
use Rattle.fnc_journal.specs.Found.{is_input, is_reply}
use Rattle.fnc_journal.specs.Driven.{
  last_input,
  before_advance,
  advances,
  is_at_once,
  are_all_at,
  are_one,
  is_advance,
  rests,
  rests_after,
  rests_before,
}
use Rattle.fnc_journal.specs.Served.{AtRest, AreReplies}

-- a reply is no input
pub reply-no_input : (event : Event) → is_reply event ≡ true → is_input event ≡ false
reply-no_input (Event.Reply reply) q = refl
reply-no_input (Event.Device device) q = cc
reply-no_input (Event.Gone reg) q = cc
reply-no_input (Event.Level set) q = cc
reply-no_input (Event.LevelGone cleared) q = cc
reply-no_input (Event.Agent described) q = cc
reply-no_input (Event.Ask ask) q = cc
reply-no_input (Event.Exit ended) q = cc
reply-no_input Event.Pass q = cc
reply-no_input (Event.Confirm confirmation) q = cc
reply-no_input (Event.Refused refusal) q = cc
reply-no_input (Event.Start start) q = cc

input-no_reply : (event : Event) → is_input event ≡ true → is_reply event ≡ false
input-no_reply (Event.Reply reply) q = cc
input-no_reply _ q = refl

-- what came at once is no advance
before_advance-at_once : (m : ℕ) (h : History) → is_at_once m h ≡ true → before_advance m h ≡ h
before_advance-at_once m [] q = refl
before_advance-at_once m (e ∷ before) q = go (is_input e.event) refl q
  where
    go : (b : Bool) → is_input e.event ≡ b → cond b true ((e.moment == m) && is_at_once m before) ≡ true → before_advance m (e ∷ before) ≡ e ∷ before
    go true i q = rw (input-no_reply e.event i) refl
    go false i q = go_moment (e.moment == m) refl q
      where
        go_moment : (b : Bool) → (e.moment == m) ≡ b → (b && is_at_once m before) ≡ true → before_advance m (e ∷ before) ≡ e ∷ before
        go_moment true k q =
            let same : e.moment ≡ m = eqb-true e.moment m k in
            let later : nat_lt m e.moment ≡ false = le-ltb m e.moment (omega arith) in
            rw later (drop-and (is_reply e.event))
          where
            drop-and : (b : Bool) → cond (b && false) (before_advance m before) (e ∷ before) ≡ e ∷ before
            drop-and true = refl
            drop-and false = refl
        go_moment false k q = cc

advances-at_once : (m : ℕ) (h : History) → is_at_once m h ≡ true → advances m h ≡ []
advances-at_once m [] q = refl
advances-at_once m (e ∷ before) q = go (is_input e.event) refl q
  where
    go : (b : Bool) → is_input e.event ≡ b → cond b true ((e.moment == m) && is_at_once m before) ≡ true → advances m (e ∷ before) ≡ []
    go true i q = rw (input-no_reply e.event i) refl
    go false i q = go_moment (e.moment == m) refl q
      where
        go_moment : (b : Bool) → (e.moment == m) ≡ b → (b && is_at_once m before) ≡ true → advances m (e ∷ before) ≡ []
        go_moment true k q =
            let same : e.moment ≡ m = eqb-true e.moment m k in
            let later : nat_lt m e.moment ≡ false = le-ltb m e.moment (omega arith) in
            rw later (drop-and (is_reply e.event))
          where
            drop-and : (b : Bool) → cond (b && false) (e.moment ∷ advances m before) [] ≡ []
            drop-and true = refl
            drop-and false = refl
        go_moment false k q = cc

-- the replies of an advance are stripped again
before_advance-replies : (m next : ℕ) (rs h : History) → m < next → AreReplies next rs → is_at_once m h ≡ true → before_advance m (rs ++ h) ≡ h
before_advance-replies m next [] h l a q = before_advance-at_once m h q
before_advance-replies m next (r ∷ rs) h l a q =
    let later : nat_lt m r.moment ≡ true = lt-ltb m r.moment (omega (arith, a.0.1)) in
    rw (a.0.0, later) (before_advance-replies m next rs h l a.1 q)

advances-replies : (m next : ℕ) (rs h : History) → m < next → AreReplies next rs → is_at_once m h ≡ true → are_all_at next (advances m (rs ++ h)) ≡ true
advances-replies m next [] h l a q = ap (are_all_at next) (advances-at_once m h q)
advances-replies m next (r ∷ rs) h l a q =
    let later : nat_lt m r.moment ≡ true = lt-ltb m r.moment (omega (arith, a.0.1)) in
    let same : (r.moment == next) ≡ true = eq-eqb r.moment next a.0.1 in
    rw (a.0.0, later, same) (advances-replies m next rs h l a.1 q)

last_input-replies : (next : ℕ) (rs h : History) → AreReplies next rs → last_input (rs ++ h) ≡ last_input h
last_input-replies next [] h a = refl
last_input-replies next (r ∷ rs) h a = rw (reply-no_input r.event a.0.0) (last_input-replies next rs h a.1)

-- all at one moment are at the first one's
are_one-all : (next : ℕ) (ms : List ℕ) → are_all_at next ms ≡ true → are_one ms ≡ true
are_one-all next [] q = refl
are_one-all next (m ∷ ms) q = go (m == next) refl q
  where
    go : (b : Bool) → (m == next) ≡ b → (b && are_all_at next ms) ≡ true → are_all_at m ms ≡ true
    go true k q = ap (λ n. are_all_at n ms) (eqb-true m next k) ∙ q
    go false k q = cc

-- at rest, also after the replies of an advance, all is done before the next input and at the end
rests-with : (h : History) (x : Option ℕ) (rest : ℕ) → last_input h ≡ Some rest → rests x h ≡ rests_after x h (Some rest)
rests-with [] x rest l = cc
rests-with (e ∷ before) x rest l = rw l refl

pub rests-next : (m next : ℕ) (rs h : History) → m < next → AreReplies next rs → AtRest m h → rests (Some next) (rs ++ h) ≡ true
rests-next m next rs h l a r =
    rests-with (rs ++ h) (Some next) m (last_input-replies next rs h a ∙ r.last)
    ∙ rw (before_advance-replies m next rs h l a r.at_once, advances-replies m next rs h l a r.at_once, r.at_once, r.settled_now, r.idle) refl

pub rests-same : (m : ℕ) (x : Option ℕ) (h : History) → AtRest m h → rests x h ≡ true
rests-same m x h r =
    rests-with h x m r.last ∙ rw (before_advance-at_once m h r.at_once, advances-at_once m h r.at_once, r.at_once, r.settled_now, r.idle) (none x)
  where
    none : (x : Option ℕ) → is_advance x [] ≡ true
    none None = refl
    none (Some n) = refl

pub rests-end : (m next : ℕ) (rs h : History) → m < next → AreReplies next rs → AtRest m h → rests None (rs ++ h) ≡ true
rests-end m next rs h l a r =
    rests-with (rs ++ h) None m (last_input-replies next rs h a ∙ r.last)
    ∙ rw (before_advance-replies m next rs h l a r.at_once, r.at_once, r.settled_now, r.idle) (are_one-all next (advances m (rs ++ h)) (advances-replies m next rs h l a r.at_once))

-- an output needs nothing of what came before
pub rests_before-output : (e : Entry) (h : History) → is_input e.event ≡ false → IsTrue (rests_before e h)
rests_before-output e h q = rw q refl
