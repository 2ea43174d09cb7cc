use Rattle.std.proofs.Common.{◌≡◌, ◌∙◌, ◌==◌, ap, ap₂, sym, refl, List, length}
use Rattle.std.specs.Prelude.{bytes_eq, string_bytes}
use Rattle.std.specs.List.{list_any}
use Rattle.std.specs.Map.{lookup, remove_entry, set_value}
use Rattle.std.proofs.lemmas.Map.Steps.{set_value_same}
use Rattle.fnc_journal.specs.Levels.{Level}
use Rattle.fnc_config.proofs.targets.Targets.clear.Goals as goal
use Rattle.fnc_config.proofs.targets.Targets.clear.Goals.{in-Some-1, in-None-1}
use Rattle.fnc_config.proofs.Shown.{found, gone, shown, written}
use Rattle.fnc_config.proofs.TargetSteps.{clear-last, clear-some, none-stand, stand}

pub returns-in_default-clause-found : goal.returns-in_default-clause-found
returns-in_default-clause-found c =
    let text = c.args.text.now in
    let seen = found text c.self.inside.targets.entries ∙ ap (lookup (bytes_eq text)) c.self.view_is in
    ap (list_any (λ (l : Level). c.args.index == l.index))
    (sym (none-stand text c.args.self.now (sym (c.in_default.ensures.value ∙ seen))))

pub returns-then-not-clear-clause-found : goal.returns-then-not-clear-clause-found
returns-then-not-clear-clause-found c =
    let text = c.args.text.now in
    let seen = found text c.self.inside.targets.entries ∙ ap (lookup (bytes_eq text)) c.self.view_is in
    c.if-not-clear.ensures.found
    ∙ ap (list_any (λ (l : Level). c.args.index == l.index))
    (sym (stand text c.args.self.now _ (sym (c.in-Some.ensures.value ∙ seen))))

pub returns-then-not-clear-clause-unchanged : goal.returns-then-not-clear-clause-unchanged
returns-then-not-clear-clause-unchanged c =
    let text = c.args.text.now in
    let levels = c.in-Some.levels.now in
    let entries = c.self.inside.targets.entries in
    λ no.
    ap shown (c.get_mut.follows.holds c.clear.new.self).0
    ∙ ap (λ ls. shown (set_value (λ k. bytes_eq text (string_bytes k)) entries ls))
    (c.if-not-clear.ensures.unchanged refl)
    ∙ ap shown (set_value_same (λ k. bytes_eq text (string_bytes k)) entries levels (sym c.in-Some.ensures.value))
    ∙ c.self.view_is

pub returns-then-is_empty-clause-found : goal.returns-then-is_empty-clause-found
returns-then-is_empty-clause-found c =
    let text = c.args.text.now in
    let seen = found text c.self.inside.targets.entries ∙ ap (lookup (bytes_eq text)) c.self.view_is in
    c.if-not-clear.ensures.found
    ∙ ap (list_any (λ (l : Level). c.args.index == l.index))
    (sym (stand text c.args.self.now _ (sym (c.in-Some.ensures.value ∙ seen))))

pub returns-then-is_empty-clause-cleared : goal.returns-then-is_empty-clause-cleared
returns-then-is_empty-clause-cleared c =
    let text = c.args.text.now in
    let old = c.args.self.now in
    let index = c.args.index in
    let levels = c.in-Some.levels.now in
    let seen = found text c.self.inside.targets.entries ∙ ap (lookup (bytes_eq text)) c.self.view_is in
    let left = c.if-is_empty.ensures
    ∙ ap (λ (ls : List Level). length ls == 0) (c.as_slice.ensures ∙ c.clear.ensures.rest) in
    let joined : c.match-shift_remove.self ≡ shown c.shift_remove.new.self.entries =
    elim c.match-shift_remove.branch [ in-Some-1 w ↦ w.self-is | in-None-1 w ↦ w.self-is ] in
    λ yes. joined
    ∙ ap shown c.shift_remove.ensures.entries
    ∙ gone text _
    ∙ ap (remove_entry (bytes_eq text))
    (ap shown (c.get_mut.follows.holds c.clear.new.self).0
    ∙ written text c.self.inside.targets.entries c.clear.new.self
    ∙ ap₂ (λ ts ls. set_value (bytes_eq text) ts ls) c.self.view_is c.clear.ensures.rest)
    ∙ clear-last text old index levels (sym (c.in-Some.ensures.value ∙ seen)) left

pub returns-else-is_empty-clause-found : goal.returns-else-is_empty-clause-found
returns-else-is_empty-clause-found c =
    let text = c.args.text.now in
    let seen = found text c.self.inside.targets.entries ∙ ap (lookup (bytes_eq text)) c.self.view_is in
    c.if-not-clear.ensures.found
    ∙ ap (list_any (λ (l : Level). c.args.index == l.index))
    (sym (stand text c.args.self.now _ (sym (c.in-Some.ensures.value ∙ seen))))

pub returns-else-is_empty-clause-cleared : goal.returns-else-is_empty-clause-cleared
returns-else-is_empty-clause-cleared c =
    let text = c.args.text.now in
    let old = c.args.self.now in
    let index = c.args.index in
    let levels = c.in-Some.levels.now in
    let seen = found text c.self.inside.targets.entries ∙ ap (lookup (bytes_eq text)) c.self.view_is in
    let left = c.if-is_empty.ensures
    ∙ ap (λ (ls : List Level). length ls == 0) (c.as_slice.ensures ∙ c.clear.ensures.rest) in
    λ yes. ap shown (c.get_mut.follows.holds c.clear.new.self).0
    ∙ written text c.self.inside.targets.entries c.clear.new.self
    ∙ ap₂ (λ ts ls. set_value (bytes_eq text) ts ls) c.self.view_is c.clear.ensures.rest
    ∙ clear-some text old index levels (sym (c.in-Some.ensures.value ∙ seen)) left
