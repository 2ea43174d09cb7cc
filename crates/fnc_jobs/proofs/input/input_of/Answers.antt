use Rattle.std.proofs.Common.{◌≡◌, ◌++◌, ℕ, List, Option, Ok, Err, Result, ap, ap₂, refl, sym, ◌∙◌, subst}
use Rattle.std.specs.Prelude.{IfOk, option_to_list}
use Rattle.std.specs.Option.{option_copied}
use Rattle.fnc_journal.specs.declared.entry.Kind.{Kind}
use Rattle.fnc_journal.specs.declared.definition.Allowed.{Allowed}
use Rattle.fnc_journal.specs.declared.definition.Definition.{Definition}
use Rattle.fnc_journal.specs.declared.names.Pair.{Pair}
use Rattle.fnc_journal.specs.declared.outcome.NoMemory.{NoMemory}
use Rattle.fnc_journal.specs.Device.{allowed}
use Rattle.fnc_agent_api.specs.OptionLines.{AreSendable, option_lines, sent}
use Rattle.fnc_jobs.specs.Inputs.{input, node_sent, own_sent, port_sent}
use Rattle.fnc_jobs.proofs.Sendable.{all-sendable}
use Rattle.fnc_jobs.proofs.input.input_of.Goals as goal

-- the text of these options is the input
written : (d : Definition) (kind : Kind) (target word : List ℕ) (named : Option (List ℕ)) (port : Option Pair)
    (own : List Pair) → word ≡ (allowed d kind).word → named ≡ node_sent kind target → port ≡ port_sent d kind target →
    own ≡ own_sent d → (r : Result (List ℕ) NoMemory) →
    IfOk r (λ text. text ≡ option_lines (sent word named port own)) → IfOk r (λ text. text ≡ input d kind target)
written d kind target word named port own w n p o (Ok text) k = k ∙ rw (w, n, p, o) refl
written d kind target word named port own w n p o (Err want) k = tt

pub options_text-requires : goal.options_text-requires
options_text-requires c =
    let d = c.args.definition.now in
    let port : option_copied c.as_ref.result ≡ port_sent d c.args.kind c.args.target.now =
    c.as_ref.ensures.value ∙ c.in_ok-port.ensures in
    let own : c.in_ok-own.own ≡ own_sent d = rw (← c.as_slice.ensures) c.in_ok-own.ensures in
    subst AreSendable (sym (ap₂ (λ p os. option_to_list p ++ os) port own))
    (all-sendable d c.args.kind c.args.target.now c.requires.bounded c.requires.named)

pub returns : goal.returns
returns c =
    let d = c.args.definition.now in
    let port : option_copied c.as_ref.result ≡ port_sent d c.args.kind c.args.target.now =
    c.as_ref.ensures.value ∙ c.in_ok-port.ensures in
    let own : c.in_ok-own.own ≡ own_sent d = rw (← c.as_slice.ensures) c.in_ok-own.ensures in
    written d c.args.kind c.args.target.now _ _ _ _
    (c.as_str-word.ensures ∙ ap (λ (a : Allowed). a.word) c.allowed.ensures) c.node_name.ensures port own
    c.options_text.result c.options_text.ensures.value
