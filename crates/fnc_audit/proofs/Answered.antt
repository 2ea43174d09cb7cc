-- The lines of the answers for a node grow by those of the entries.
use Rattle.std.proofs.Common.{◌≡◌, ◌<◌, ◌+◌, ◌==◌, ℕ, List, [], ◌∷◌, ◌++◌, Bool, true, false, cond, Option, Some}
use Rattle.std.proofs.Common.{length, refl, sym, ap, ◌∙◌, arith, eqb-true, false-eqb, ltb, le-ltb, lt-ltb}
use Rattle.fnc_outside.specs.Writes.{AppendsPart}
use Rattle.fnc_journal.specs.declared.entry.Entry.{Entry}
use Rattle.fnc_journal.specs.declared.event.Event.{Event}
use Rattle.fnc_journal.specs.declared.event.Reply.{Reply}
use Rattle.fnc_journal.specs.declared.event.Request.{Request}
use Rattle.fnc_journal.specs.History.{History}
use Rattle.fnc_journal.specs.Found.{entry_at, request}
use Rattle.fnc_journal.specs.Prefix.{prefix}
use Rattle.fnc_journal.proofs.Prefixes.{prefix-all}
use Rattle.fnc_printing.proofs.Pieces.{part-of_front}
use Rattle.fnc_audit.specs.Said.{history_at, history_line, history_text, reply_line}

-- the line of an entry is that after the entries before it
pub line-at : (node : List ℕ) (h : History) (n : ℕ) (e : Entry) → n < length h → entry_at n h ≡ Some e →
    history_at node n h ≡ history_line node e.moment e.event (prefix n h)
line-at node [] n e l f = cc
line-at node (d ∷ before) n e l f = go (n == length before) refl f (λ k g. line-at node before n e k g)
  where
    go : (b : Bool) → (n == length before) ≡ b → cond b (Some d) (entry_at n before) ≡ Some e →
        (n < length before → entry_at n before ≡ Some e →
        history_at node n before ≡ history_line node e.moment e.event (prefix n before)) →
        cond b (history_line node d.moment d.event before) (history_at node n before)
        ≡ history_line node e.moment e.event (prefix n (d ∷ before))
    go true p g ih =
        let same : n ≡ length before = eqb-true n (length before) p in
        let one : d ≡ e = cc in
        rw (le-ltb (length before) n (omega arith), prefix-all before n (omega arith))
        (ap (λ (x : Entry). history_line node x.moment x.event before) one)
    go false p g ih =
        let other : n ≡ length before → ⊥ = false-eqb n (length before) (sym p) in
        let less : n < length before = omega arith in
        rw (le-ltb (length before) n (omega arith)) (ih less g)

-- of an entry that is no reply
pub line-none : (node : List ℕ) (h : History) (n : ℕ) (e : Entry) → n < length h → entry_at n h ≡ Some e →
    ((reply : Reply) → e.event ≡ Event.Reply reply → ⊥) → history_at node n h ≡ []
line-none node h n e l f other = line-at node h n e l f ∙ none e.event other
  where
    none : (event : Event) → ((reply : Reply) → event ≡ Event.Reply reply → ⊥) →
        history_line node e.moment event (prefix n h) ≡ []
    none (Event.Reply reply) other = absurd (other reply refl)
    none _ other = refl

-- of a reply
pub line-reply : (node : List ℕ) (h : History) (n : ℕ) (e : Entry) (reply : Reply) (asked : Option Request) →
    n < length h → entry_at n h ≡ Some e → e.event ≡ Event.Reply reply → asked ≡ request reply.req.0 (prefix n h) →
    reply_line node e.moment reply.answer asked ≡ history_at node n h
line-reply node h n e reply asked l f is found =
    ap (reply_line node e.moment reply.answer) found
    ∙ ap (λ (event : Event). history_line node e.moment event (prefix n h)) (sym is)
    ∙ sym (line-at node h n e l f)

-- the line of one entry more
pub text-more : (node : List ℕ) (h : History) (n : ℕ) → n < length h →
    history_text node (prefix (n + 1) h) ≡ history_text node (prefix n h) ++ history_at node n h
text-more node [] n l = absurd (omega arith)
text-more node (e ∷ before) n l = go (n == length before) refl (λ k. text-more node before n k)
  where
    go : (b : Bool) → (n == length before) ≡ b →
        (n < length before →
        history_text node (prefix (n + 1) before)
        ≡ history_text node (prefix n before) ++ history_at node n before) →
        history_text node (prefix (n + 1) (e ∷ before))
        ≡ history_text node (prefix n (e ∷ before))
        ++ cond b (history_line node e.moment e.event before) (history_at node n before)
    go true p ih =
        let same : n ≡ length before = eqb-true n (length before) p in
        rw (
          lt-ltb (length before) (n + 1) (omega arith),
          le-ltb (length before) n (omega arith),
          prefix-all before n (omega arith),
        ) refl
    go false p ih =
        let other : n ≡ length before → ⊥ = false-eqb n (length before) (sym p) in
        let less : n < length before = omega arith in
        rw (le-ltb (length before) (n + 1) (omega arith), le-ltb (length before) n (omega arith)) (ih less)

-- a part of the lines of a prefix is a part of all lines
pub text-front : (node : List ℕ) (start now : Option (List ℕ)) (h : History) (n : ℕ) →
    AppendsPart start now (history_text node (prefix n h)) → AppendsPart start now (history_text node h)
text-front node start now [] n p = p
text-front node start now (e ∷ before) n p =
    go (ltb (length before) n) p (λ q. text-front node start now before n q)
  where
    go : (b : Bool) → AppendsPart start now (history_text node (cond b (e ∷ before) (prefix n before))) →
        (AppendsPart start now (history_text node (prefix n before)) →
        AppendsPart start now (history_text node before)) →
        AppendsPart start now (history_text node (e ∷ before))
    go true p ih = p
    go false p ih =
        part-of_front start now (history_text node before) (history_line node e.moment e.event before) (ih p)
