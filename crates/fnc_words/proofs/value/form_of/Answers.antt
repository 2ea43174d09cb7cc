use Rattle.std.proofs.Common.{◌∙◌, ap, refl, sym}
use Rattle.clap.specs.Words.{found_of}
use Rattle.fnc_words.specs.Arguments.{journal_rule}
use Rattle.fnc_words.specs.Values.{form_by}
use Rattle.fnc_words.proofs.Flags.{flag-of}
use Rattle.fnc_words.proofs.value.form_of.Goals as goal

pub returns : goal.returns
returns c =
    c.form_by.ensures
    ∙ ap form_by (sym (flag-of journal_rule (found_of c.args.matches.now) c.get_flag.result refl c.requires
    c.get_flag.ensures.none c.get_flag.ensures.value c.get_flag.ensures.other))
