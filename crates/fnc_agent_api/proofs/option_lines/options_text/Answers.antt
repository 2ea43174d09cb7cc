-- The text is UTF-8, so the law on lists speaks of it.
use Rattle.std.proofs.Common.{ℕ, sym, ap, ◌∙◌, subst}
use Rattle.std.specs.Prelude.{Vec}
use Rattle.std.specs.declared.alloc.Global.{Global}
use Rattle.std.specs.Option.{option_copied}
use Rattle.std.specs.Str.{IsUtf8}
use Rattle.std.proofs.lemmas.Str.{IsUtf8-string_bytes}
use Rattle.fnc_agent_api.specs.OptionLines.{sent}
use Rattle.fnc_agent_api.proofs.ReadsBack.{reads_back}
use Rattle.fnc_agent_api.proofs.option_lines.options_text.Goals as goal

pub returns-clause-reads_back : goal.returns-clause-reads_back
returns-clause-reads_back c = λ can short.
    let pairs = sent c.args.word.now (option_copied c.args.nodename) (option_copied c.args.port) c.args.own.now in
    let same = c.from_vec.ensures ∙ ap (λ (v : Vec ℕ Global). v.items) c.into_bytes.ensures.value in
    let text = subst (λ bs. IsUtf8 bs) (sym same) (IsUtf8-string_bytes c.in_ok-text_of.field-0) in
    reads_back pairs c.from_vec.result text (same ∙ rw c.as_slice.ensures at c.in_ok-text_of.ensures) can short
