use Rattle.std.proofs.Common.{◌≡◌, ◌∙◌, ◌++◌, ◌∷◌, [], ap, sym, subst, None}
use Rattle.std.specs.Prelude.{bytes_eq, string_bytes}
use Rattle.std.specs.Map.{lookup, remove_entry}
use Rattle.fnc_config.proofs.numbers.Numbers.put_last.Goals as goal
use Rattle.fnc_config.proofs.Shown.{gone, shown, added}
use Rattle.fnc_config.specs.Configured.{without}

pub returns-clause-ok : goal.returns-clause-ok
returns-clause-ok c =
    let name = c.args.name.now in
    let key = c.in_ok-key.ensures.ok in
    let removed = c.shift_remove.new.self in
    let absent = subst (λ t. lookup (λ k. bytes_eq t (string_bytes k)) removed.entries ≡ None) (sym key)
    c.shift_remove.ensures.updates.1 in
    let rest = ap shown (c.shift_remove.ensures.entries
    ∙ ap (remove_entry (λ k. bytes_eq name (string_bytes k))) c.in_ok-reserve.ensures.entries)
    ∙ gone name _ ∙ ap (without name) c.self.view_is in
    ap shown c.in_ok-insert.ensures.entries ∙ added removed c.in_ok-key.key c.args.number absent
    ∙ ap (λ t. shown removed.entries ++ (t, c.args.number) ∷ []) key
    ∙ ap (λ l. l ++ (name, c.args.number) ∷ []) rest
