-- A call adds entries at the journal's end alone, and so do many calls.
use Rattle.std.proofs.Common.{
  ℕ,
  List,
  [],
  ◌∷◌,
  ◌++◌,
  true,
  false,
  ◌≡◌,
  ◌≤◌,
  refl,
  ap,
  sym,
  ◌∙◌,
  subst,
  arith,
  append_assoc,
}
use Rattle.std.specs.Prelude.{not}
use Rattle.std.specs.List.{AllByRecursion}
use Rattle.std.proofs.lemmas.List.Elements.{filter-append}
use Rattle.fnc_journal.specs.declared.entry.Entry.{Entry}
use Rattle.fnc_journal.specs.declared.event.Event.{Event}
use Rattle.fnc_journal.specs.History.{History}
use Rattle.fnc_journal.specs.Found.{is_reply}
use Rattle.fnc_journal.specs.Served.{AreReplies}
use Rattle.fnc_journal.proofs.Each.{each-map}
use Rattle.fnc_core.specs.declared.change.Started.{Started}
use Rattle.fnc_core.specs.Between.{entry, start_of}
use Rattle.fnc_core.specs.Cored.{Cored, Sound, Advances, Enters, Starts, ask_event}
use Rattle.fnc_core.specs.Calls.{IsCall, AreCalls, AreSound, Grows, after_all, but_replies, entered_by, entered_by_all}
use Rattle.fnc_core.proofs.Following.{entered-answered, entered-history, entered-last, entered-limit}

-- of a list the entries lie between two moments
abbrev pub AreBetween : ℕ → ℕ → History → Type 0
AreBetween m n h = AllByRecursion (λ (e : Entry). (m ≤ e.moment) × (e.moment ≤ n)) h

each-both : {X : Type 0} (P : X → Type 0) (xs ys : List X) → AllByRecursion P xs → AllByRecursion P ys →
    AllByRecursion P (xs ++ ys)
each-both P [] ys a b = b
each-both P (x ∷ xs) ys a b = (a.0, each-both P xs ys a.1 b)

replies-between : (m n : ℕ) (rs : History) → AreReplies n rs → m ≤ n → AreBetween m n rs
replies-between m n [] a l = tt
replies-between m n (r ∷ rs) a l =
    let at : r.moment ≡ n = a.0.1 in
    ((omega (arith, at, l), omega (arith, at)), replies-between m n rs a.1 l)

replies-apart : (m : ℕ) (rs : History) → AreReplies m rs → but_replies rs ≡ []
replies-apart m [] a = refl
replies-apart m (r ∷ rs) a = let one : is_reply r.event ≡ true = a.0.0 in rw one (replies-apart m rs a.1)

replies-pass : (m : ℕ) (rs h : History) → AreReplies m rs → but_replies (rs ++ h) ≡ but_replies h
replies-pass m rs h a = filter-append (λ (e : Entry). not (is_reply e.event)) rs h
    ∙ ap (λ xs. xs ++ but_replies h) (replies-apart m rs a)

-- an entry that is no reply, between replies
entry-passes : (m : ℕ) (event : Event) (rs advance h : History) → AreReplies m rs → AreReplies m advance →
    is_reply event ≡ false →
    but_replies (rs ++ entry m event ∷ (advance ++ h)) ≡ entry m event ∷ but_replies h
entry-passes m event rs advance h a b unreply =
    let tail : but_replies (entry m event ∷ (advance ++ h)) ≡ entry m event ∷ but_replies (advance ++ h) =
    rw unreply refl in
    replies-pass m rs (entry m event ∷ (advance ++ h)) a ∙ tail
    ∙ ap (λ xs. entry m event ∷ xs) (replies-pass m advance h b)

module _ (old new : Cored) where
  grows-advanced : (m : ℕ) → old.last ≤ m → Advances old new m → Grows old new
  grows-advanced m l x = record {
    more = x.advance;
    history = x.history;
    came = subst (λ n. AreBetween old.last n x.advance) (sym x.last) (replies-between old.last m x.advance x.at_once l);
    later = subst (λ n. old.last ≤ n) (sym x.last) l;
    limit = x.limit;
  }

  grows-entered : (m : ℕ) (event : Event) (need : ℕ) → old.last ≤ m → Enters old new m event need → Grows old new
  grows-entered m event need l x =
      let here : AreBetween old.last m (entry m event ∷ x.advances.advance) =
      ((l, omega arith), replies-between old.last m x.advances.advance x.advances.at_once l) in
      let came : AreBetween old.last m (x.follows.replies ++ entry m event ∷ x.advances.advance) =
      each-both (λ (e : Entry). (old.last ≤ e.moment) × (e.moment ≤ m)) x.follows.replies
      (entry m event ∷ x.advances.advance)
      (replies-between old.last m x.follows.replies (entered-answered x) l) here in
      record {
        more = x.follows.replies ++ entry m event ∷ x.advances.advance;
        history =
            entered-history x ∙ sym (append_assoc x.follows.replies (entry m event ∷ x.advances.advance) old.history);
        came =
            subst (λ n. AreBetween old.last n (x.follows.replies ++ entry m event ∷ x.advances.advance))
            (sym (entered-last x)) came;
        later = subst (λ n. old.last ≤ n) (sym (entered-last x)) l;
        limit = entered-limit x;
      }

  grows-began : (s : Started) → Starts old new s → Grows old new
  grows-began s x =
      let last : new.last ≡ old.last = x.last in
      record {
        more = entry old.last (Event.Start (start_of s)) ∷ [];
        history = x.history;
        came = ((omega arith, omega (arith, last)), tt);
        later = omega (arith, last);
        limit = x.limit;
      }

  grows-stayed : new ≡ old → Grows old new
  grows-stayed same = subst (λ (v : Cored). Grows old v) (sym same)
      (record { more = []; history = refl; came = tt; later = omega arith; limit = refl })

  grows-call : IsCall old new → Grows old new
  grows-call (IsCall.Advanced m l x) = grows-advanced m l x
  grows-call (IsCall.Entered m event need l unreply x) = grows-entered m event need l x
  grows-call (IsCall.Asked m a p req l x) = grows-entered m (ask_event req x.lead a p) x.need l x.enters
  grows-call (IsCall.Began s x) = grows-began s x
  grows-call (IsCall.Stayed same) = grows-stayed same

  entered-in : (m : ℕ) (event : Event) (need : ℕ) → is_reply event ≡ false → Enters old new m event need →
      but_replies new.history ≡ entry m event ∷ but_replies old.history
  entered-in m event need unreply x =
      ap but_replies (entered-history x)
      ∙ entry-passes m event x.follows.replies x.advances.advance old.history
      (entered-answered x) x.advances.at_once unreply

  entered-call : (call : IsCall old new) → but_replies new.history ≡ entered_by old new call ++ but_replies old.history
  entered-call (IsCall.Advanced m l x) = ap but_replies x.history ∙ replies-pass m x.advance old.history x.at_once
  entered-call (IsCall.Entered m event need l unreply x) = entered-in m event need unreply x
  entered-call (IsCall.Asked m a p req l x) = entered-in m (ask_event req x.lead a p) x.need refl x.enters
  entered-call (IsCall.Began s x) = ap but_replies x.history
  entered-call (IsCall.Stayed same) = ap (λ (v : Cored). but_replies v.history) same

  -- what a call leaves is sound
  sound-call : Sound old → IsCall old new → Sound new
  sound-call s (IsCall.Advanced m l x) = x.sound
  sound-call s (IsCall.Entered m event need l unreply x) = x.follows.sound
  sound-call s (IsCall.Asked m a p req l x) = x.enters.follows.sound
  sound-call s (IsCall.Began b x) = x.sound
  sound-call s (IsCall.Stayed same) = subst Sound (sym same) s

grows-twice : (a b c : Cored) → Grows a b → Grows b c → Grows a c
grows-twice a b c g k =
    let first : a.last ≤ b.last = g.later in
    let second : b.last ≤ c.last = k.later in
    record {
      more = k.more ++ g.more;
      history = k.history ∙ ap (λ h. k.more ++ h) g.history ∙ sym (append_assoc k.more g.more a.history);
      came = each-both (λ (e : Entry). (a.last ≤ e.moment) × (e.moment ≤ c.last)) k.more g.more
          (each-map (λ (e : Entry). (b.last ≤ e.moment) × (e.moment ≤ c.last))
          (λ (e : Entry). (a.last ≤ e.moment) × (e.moment ≤ c.last)) k.more
          (λ e i. (omega (arith, first, i.0), i.1)) k.came)
          (each-map (λ (e : Entry). (a.last ≤ e.moment) × (e.moment ≤ b.last))
          (λ (e : Entry). (a.last ≤ e.moment) × (e.moment ≤ c.last)) g.more
          (λ e i. (i.0, omega (arith, second, i.1))) g.came);
      later = omega (arith, first, second);
      limit = k.limit ∙ g.limit;
    }

-- by induction over the calls
pub grows-all : (v : Cored) (vs : List Cored) → AreCalls v vs → Grows v (after_all v vs)
grows-all v [] calls = grows-stayed v v refl
grows-all v (w ∷ ws) calls = grows-twice v w (after_all w ws) (grows-call v w calls.0) (grows-all w ws calls.1)

pub entered-all : (v : Cored) (vs : List Cored) (calls : AreCalls v vs) →
    but_replies (after_all v vs).history ≡ entered_by_all v vs calls ++ but_replies v.history
entered-all v [] calls = refl
entered-all v (w ∷ ws) calls =
    entered-all w ws calls.1 ∙ ap (λ h. entered_by_all w ws calls.1 ++ h) (entered-call v w calls.0) ∙
    sym (append_assoc (entered_by_all w ws calls.1) (entered_by v w calls.0) (but_replies v.history))

pub sound-all : (v : Cored) (vs : List Cored) → Sound v → AreCalls v vs → AreSound v vs
sound-all v [] s calls = (s, tt)
sound-all v (w ∷ ws) s calls = (s, sound-all w ws (sound-call v w s calls.0) calls.1)
