use Rattle.clap.specs.Words.{found_of}
use Rattle.fnc_words.proofs.Numbers.{count-read}
use Rattle.fnc_words.proofs.value.count_of.Goals as goal

pub returns-clause-reads : goal.returns-clause-reads
returns-clause-reads c =
    (count-read (found_of c.args.matches.now) c.get_one.result c.requires
    (record { none = c.get_one.ensures.none; some = c.get_one.ensures.value })).is

pub returns-clause-within : goal.returns-clause-within
returns-clause-within c =
    (count-read (found_of c.args.matches.now) c.get_one.result c.requires
    (record { none = c.get_one.ensures.none; some = c.get_one.ensures.value })).within
