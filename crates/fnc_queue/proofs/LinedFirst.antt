-- The first to start of the line is the first to start of the tries that wait.
use Rattle.std.proofs.Common.{ℕ, List, [], ◌∷◌, Bool, true, false, ◌≡◌, refl, sym, ap, ◌∙◌, Option, Some, None, cond, eq-eqb, ◌==◌}
use Rattle.std.specs.List.{AllByRecursion, Contains}
use Rattle.fnc_journal.specs.declared.entry.Reg.{Reg}
use Rattle.fnc_queue.specs.declared.waiting.Waiting.{Waiting}
use Rattle.fnc_queue.specs.Items.{item_of, InOrder}
use Rattle.fnc_queue.specs.Lines.{AreApart, IsLined}
use Rattle.fnc_queue.specs.Places.{may_start, is_before, first_among}
use Rattle.fnc_queue.proofs.Numbers.{same-number}
use Rattle.fnc_queue.proofs.FirstLemmas.{Leads, leads, contained-own, contains-here, contains-later, each-contained, before-tie}
use Rattle.fnc_queue.proofs.LineLemmas.{each-found, some-same}
use Rattle.fnc_queue.proofs.OrderLemmas.{order-apart, none-waits}

contains-found : (r : ℕ) (items : List Waiting) (item : Waiting) → item_of r items ≡ Some item → Contains items item
contains-found r [] item e = absurd (let both : ◌≡◌ {A = Option Waiting} None (Some item) = e in cc)
contains-found r (x ∷ items) item e = go (x.req.0 == r) e (λ k. contains-found r items item k)
  where
    go : (b : Bool) → cond b (Some x) (item_of r items) ≡ Some item →
        (item_of r items ≡ Some item → Contains items item) → Contains (x ∷ items) item
    go true k ih = rw (← some-same k) (contains-here x items)
    go false k ih = contains-later item x items (ih k)

-- what holds of the try of each operation holds of each
found-each : (P : Waiting → Type 0) (items : List Waiting) → AreApart items →
    ((r : ℕ) (item : Waiting) → item_of r items ≡ Some item → P item) → AllByRecursion P items
found-each P [] a h = tt
found-each P (x ∷ items) a h = (
  h x.req.0 x (let same : (x.req.0 == x.req.0) ≡ true = eq-eqb x.req.0 x.req.0 refl in rw same refl),
  found-each P items a.1 (λ r item e. h r item (go r item (x.req.0 == r) refl e)),
)
  where
    go : (r : ℕ) (item : Waiting) (b : Bool) → (x.req.0 == r) ≡ b → item_of r items ≡ Some item →
        cond b (Some x) (item_of r items) ≡ Some item
    go r item true f e =
        absurd (let none : item_of x.req.0 items ≡ None = none-waits x.req.0 items a.0 in
        let here : item_of x.req.0 items ≡ item_of r items = ap (λ n. item_of n items) (same-number x.req.0 r f) in
        let both : ◌≡◌ {A = Option Waiting} None (Some item) = sym none ∙ here ∙ e in cc)
    go r item false f e = e

module _ (m : ℕ) (alive : List Reg) where
  -- who leads the line leads those that wait
  leads-waiting : (waiting lines : List Waiting) → AreApart waiting → IsLined waiting lines → (o : Option Waiting) →
      Leads m alive lines o → Leads m alive waiting o
  leads-waiting waiting lines a l None k =
      found-each (λ other. may_start m alive other ≡ false) waiting a
      (λ r item e. each-found (λ other. may_start m alive other ≡ false) r lines item k (l.same r ∙ e))
  leads-waiting waiting lines a l (Some first) k = (
    contains-found first.req.0 waiting first (sym (l.same first.req.0) ∙ contained-own first lines l.apart k.0),
    k.1,
    found-each (λ other. may_start m alive other ≡ true → is_before other first ≡ false) waiting a
        (λ r item e. each-found (λ other. may_start m alive other ≡ true → is_before other first ≡ false) r lines item k.2
        (l.same r ∙ e)),
  )

  -- and there is but one that leads
  one-leads : (items : List Waiting) → AreApart items → (o p : Option Waiting) → Leads m alive items o →
      Leads m alive items p → o ≡ p
  one-leads items a None None h k = refl
  one-leads items a None (Some y) h k =
      absurd (let both : true ≡ false = sym k.1
      ∙ each-contained (λ other. may_start m alive other ≡ false) items y h k.0 in cc)
  one-leads items a (Some x) None h k =
      absurd (let both : true ≡ false = sym h.1
      ∙ each-contained (λ other. may_start m alive other ≡ false) items x k h.0 in cc)
  one-leads items a (Some x) (Some y) h k =
      let yx : is_before y x ≡ false = each-contained
      (λ other. may_start m alive other ≡ true → is_before other x ≡ false) items y h.2 k.0 k.1 in
      let xy : is_before x y ≡ false = each-contained
      (λ other. may_start m alive other ≡ true → is_before other y ≡ false) items x k.2 h.0 h.1 in
      sym (contained-own x items a h.0) ∙ ap (λ n. item_of n items) (before-tie x y xy yx) ∙ contained-own y items a k.0

  pub first-of-lined : (waiting lines : List Waiting) → InOrder waiting → IsLined waiting lines →
      first_among m alive lines ≡ first_among m alive waiting
  first-of-lined waiting lines o l =
      let a : AreApart waiting = order-apart waiting o in
      one-leads waiting a (first_among m alive lines) (first_among m alive waiting)
      (leads-waiting waiting lines a l (first_among m alive lines) (leads m alive lines)) (leads m alive waiting)
