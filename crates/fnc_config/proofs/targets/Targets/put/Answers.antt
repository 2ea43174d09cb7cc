use Rattle.std.proofs.Common.{◌∙◌, ap, ap₂, sym}
use Rattle.std.specs.Prelude.{bytes_eq, string_bytes}
use Rattle.std.specs.Map.{lookup, set_value}
use Rattle.std.proofs.lemmas.Map.Steps.{set_value_same}
use Rattle.indexmap.specs.IndexMap.{insert_entry}
use Rattle.fnc_journal.specs.Levels.{with_level}
use Rattle.fnc_config.proofs.targets.Targets.put.Goals as goal
use Rattle.fnc_config.proofs.Shown.{found, inserted, shown, written}
use Rattle.fnc_config.proofs.TargetSteps.{always, put-absent, put-present}

pub returns-in-Some-clause-ok : goal.returns-in-Some-clause-ok
returns-in-Some-clause-ok c =
    let text = c.args.text.now in
    let old = c.args.self.now in
    let level = c.args.level in
    let levels = c.in-Some.levels.now in
    let seen = found text c.self.inside.targets.entries ∙ ap (lookup (bytes_eq text)) c.self.view_is in
    ap shown (c.get_mut.follows.holds c.put.new.self).0
    ∙ written text c.self.inside.targets.entries c.put.new.self
    ∙ ap (λ ts. set_value (bytes_eq text) ts c.put.new.self) c.self.view_is
    ∙ ap (λ ls. set_value (bytes_eq text) old ls) c.in_ok-put.ensures.ok
    ∙ put-present text old level levels (sym (c.in-Some.ensures.value ∙ seen))

pub returns-in_err-put-clause-err : goal.returns-in_err-put-clause-err
returns-in_err-put-clause-err c =
    let text = c.args.text.now in
    let levels = c.in-Some.levels.now in
    let entries = c.self.inside.targets.entries in
    always c.from_residual.result
    (ap shown (c.get_mut.follows.holds c.put.new.self).0
    ∙ ap (λ ls. shown (set_value (λ k. bytes_eq text (string_bytes k)) entries ls)) c.in_err-put.ensures.err
    ∙ ap shown (set_value_same (λ k. bytes_eq text (string_bytes k)) entries levels (sym c.in-Some.ensures.value))
    ∙ c.self.view_is)

pub returns-clause-ok : goal.returns-clause-ok
returns-clause-ok c =
    let text = c.args.text.now in
    let old = c.args.self.now in
    let level = c.args.level in
    let key = c.in_ok-key.key in
    let levels = c.put-2.new.self in
    let seen = found text c.self.inside.targets.entries ∙ ap (lookup (bytes_eq text)) c.self.view_is in
    ap shown c.in_ok-insert.ensures.entries
    ∙ inserted c.get_mut.follows.lender-at-none.entries key levels
    ∙ ap (λ m. insert_entry bytes_eq (shown m.entries) (string_bytes key) levels) c.get_mut.follows.holds-at-none
    ∙ ap (λ ts. insert_entry bytes_eq ts (string_bytes key) levels) c.self.view_is
    ∙ ap₂ (λ k ls. insert_entry bytes_eq old k ls) c.in_ok-key.ensures.ok
    (c.in_ok-put-2.ensures.ok ∙ ap (with_level level) c.new-levels.ensures)
    ∙ put-absent text old level (sym (c.in_default.ensures.value ∙ seen))
