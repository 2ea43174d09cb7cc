use Rattle.fnc_journal_text.proofs.ActionWords.{actions-pieces}
use Rattle.fnc_journal_text.proofs.words.actions_pieces.Goals as goal

pub returns : goal.returns
returns c =
    let a = c.args.actions in
    rw (c.word.ensures, c.comma.ensures, c.word-2.ensures, c.comma-2.ensures, c.word-3.ensures, c.comma-3.ensures, c.word-4.ensures, c.comma-4.ensures, c.word-5.ensures, c.either-four.ensures, c.either-three.ensures, c.either-two.ensures)
    (actions-pieces a.on a.off a.reboot a.list a.status)
