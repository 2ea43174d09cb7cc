use Rattle.fnc_text.proofs.WordLemmas.{next_word}
use Rattle.fnc_text.proofs.word.next_word.Goals as goal

pub returns-clause-words : goal.returns-clause-words
returns-clause-words c = rw c.word_from.ensures (next_word c.args.line.now c.args.from c.requires)
