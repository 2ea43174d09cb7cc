use Rattle.clap.specs.Words.{found_of}
use Rattle.fnc_words.proofs.Numbers.{number-read}
use Rattle.fnc_words.proofs.value.number_of.Goals as goal

pub returns : goal.returns
returns c =
    number-read (found_of c.args.matches.now) c.get_one.result c.requires
    (record { none = c.get_one.ensures.none; some = c.get_one.ensures.value })
