use Rattle.std.specs.Char.{is_ascii_digit}
use Rattle.fnc_text.proofs.DigitLemmas.{list_all-take_while}
use Rattle.fnc_text.proofs.duration.split_digits.Goals as goal

pub returns-clause-all : goal.returns-clause-all
returns-clause-all c = rw (c.split_at.ensures.front, c.count_digits.ensures.count)
    (list_all-take_while is_ascii_digit c.args.text.now)
