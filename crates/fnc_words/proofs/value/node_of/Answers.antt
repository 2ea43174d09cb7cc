use Rattle.std.proofs.Common.{◌≡◌, ◌∙◌, ap, rules, None}
use Rattle.std.specs.Prelude.{option_and_then, option_map, codes}
use Rattle.clap.specs.Words.{found_of}
use Rattle.clap.proofs.WalkLemmas.{first_value-rows}
use Rattle.fnc_words.specs.Values.{named_node}
use Rattle.fnc_words.proofs.value.node_of.Goals as goal

pub returns-in_err-get_str : goal.returns-in_err-get_str
returns-in_err-get_str c =
    let none : c.from_residual.result ≡ None = search rules in
    let rows = first_value-rows (found_of c.args.matches.now) (codes "node") in
    ap (option_map (λ s. s.now)) none ∙ ap (option_and_then named_node) (c.in_err-get_str.ensures ∙ rows)

pub returns : goal.returns
returns c =
    let rows = first_value-rows (found_of c.args.matches.now) (codes "node") in
    c.named_node.ensures ∙ ap (option_and_then named_node) (c.in_ok-get_str.ensures ∙ rows)
