-- What changes the configuration enters: the levels and targets of its entries are within their bounds, and few names
-- stay registered.
use Rattle.std.proofs.Common.{ℕ, List, [], ◌∷◌, ◌≡◌, ◌≤◌, ◌==◌, ◌||◌, ◌&&◌, Bool, true, false, refl, Some, sym, subst, arith, length, eqb-true, leb-true, le-leb, nat_lt, nat_le}
use Rattle.std.specs.List.{list_any}
use Rattle.std.proofs.lemmas.Bool.{ltb-false}
use Rattle.fnc_journal.specs.declared.entry.LevelTarget.{LevelTarget}
use Rattle.fnc_journal.specs.declared.entry.Reg.{Reg}
use Rattle.fnc_journal.specs.declared.event.Event.{Event}
use Rattle.fnc_journal.specs.declared.limits.TheConstants.{MOST_DEVICES_OF_LEVEL, MOST_LEVELS_OF_TARGET}
use Rattle.fnc_journal.specs.EntryBounds.{is_index, is_level, is_target}
use Rattle.fnc_journal.specs.Found.{is_device}
use Rattle.fnc_journal.specs.History.{History}
use Rattle.fnc_journal.specs.Known.{IsSmallLevel, KnowsFew, LeavesFewNames}
use Rattle.fnc_journal.specs.Levels.{Level, has_level, levels}
use Rattle.fnc_journal.specs.Registered.{current}
use Rattle.fnc_command.specs.declared.command.Command.{Command}
use Rattle.fnc_command.specs.Proper.{AreNamed, IsProperTarget}
use Rattle.fnc_core.proofs.KnownFew.{AreSmall, few-undevice, levels-small}
use Rattle.fnc_core.specs.Cored.{Cored, Enters, Sound}
use Rattle.fnc_desk.specs.Called.{CallsFor}
use Rattle.fnc_desk.specs.Obeyed.{Obeys}

positive : (n : ℕ) → 1 ≤ n → nat_lt 0 n ≡ true
positive n least = go (nat_lt 0 n) refl
  where
    go : (b : Bool) → nat_lt 0 n ≡ b → b ≡ true
    go true p = refl
    go false p = let none : n ≤ 0 = ltb-false 0 n p in absurd (omega (arith, none, least))

-- both of two tests
both : (a b : Bool) → (a && b) ≡ true → (a ≡ true) × (b ≡ true)
both true b p = (refl, p)
both false b p = cc

-- what is not a device leaves few names registered, as many as before
pub few-still : (v w : Cored) (event : Event) → v ≡ w → Sound w → is_device event ≡ false →
    LeavesFewNames v.last event v.history
few-still v w event same s other =
    few-undevice v.last event v.history other (subst (λ (u : Cored). KnowsFew u.history) (sym same) s.few)

pub target-within : (target : LevelTarget) → IsProperTarget target → is_target target ≡ true
target-within (LevelTarget.Name name) p = p
target-within (LevelTarget.Pattern text) p =
    let parts = both (nat_le 1 (length text)) _ p in
    let some = positive (length text) (leb-true 1 (length text) parts.0) in
    rw (some, parts.1) refl

pub index-within : (index : ℕ) → 1 ≤ index → index ≤ MOST_LEVELS_OF_TARGET → is_index index ≡ true
index-within index least most =
    let some = positive index least in
    let few = le-leb index MOST_LEVELS_OF_TARGET most in
    rw (some, few) refl

pub level-within : (target : LevelTarget) (index : ℕ) (devices : List (List ℕ)) → IsProperTarget target →
    AreNamed devices → IsSmallLevel index devices →
    is_level (record { target = target; index = index; devices = devices }) ≡ true
level-within target index devices p named small =
    let place = index-within index small.least small.most in
    let aim = target-within target p in
    let few = le-leb (length devices) MOST_DEVICES_OF_LEVEL small.few in
    rw (place, aim, named.1, few, named.0) refl

-- a level that stands has an index that a level may have
has-index : (index : ℕ) (ls : List Level) → AreSmall ls → list_any (λ (l : Level). index == l.index) ls ≡ true →
    (1 ≤ index) × (index ≤ MOST_LEVELS_OF_TARGET)
has-index index [] a p = cc
has-index index (l ∷ ls) a p = go (index == l.index) refl p (has-index index ls a.1)
  where
    go : (b : Bool) → (index == l.index) ≡ b → (b || list_any (λ (k : Level). index == k.index) ls) ≡ true →
        (list_any (λ (k : Level). index == k.index) ls ≡ true → (1 ≤ index) × (index ≤ MOST_LEVELS_OF_TARGET)) →
        (1 ≤ index) × (index ≤ MOST_LEVELS_OF_TARGET)
    go true e q rest =
        let same : index ≡ l.index = eqb-true index l.index e in
        (subst (λ n. 1 ≤ n) (sym same) a.0.least, subst (λ n. n ≤ MOST_LEVELS_OF_TARGET) (sym same) a.0.most)
    go false e q rest = rest q

pub standing-index : (target : LevelTarget) (index : ℕ) (h : History) → KnowsFew h → has_level target index h ≡ true →
    (1 ≤ index) × (index ≤ MOST_LEVELS_OF_TARGET)
standing-index target index h k p = has-index index (levels target h) (levels-small target h k.levels) p

-- a device is removed
pub obeys-removed : (old new : Cored) (name : List ℕ) (reg : Reg) → current name old.history ≡ Some reg.0 →
    Enters old new old.last (Event.Gone reg) 1 → Obeys (CallsFor old 0 (Command.Remove name)) old new
obeys-removed old new name reg is e = record {
  event = Event.Gone reg;
  need = 1;
  called = rw is refl;
  enters = e;
  needs = λ q. omega arith;
}
