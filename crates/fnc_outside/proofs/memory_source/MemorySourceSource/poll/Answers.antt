use Rattle.std.proofs.Common.{◌≡◌, false, true, sym, ◌∙◌}
use Rattle.fnc_outside.specs.Remembered.{is_failing}
use Rattle.fnc_outside.proofs.memory_source.MemorySourceSource.poll.Goals as goal

-- a poll whose number is not listed takes a line, or finds none
pub returns-clause-fails : goal.returns-clause-fails
returns-clause-fails c =
    let works : is_failing c.args.self.now ≡ false =
    rw (← c.self.view_is, ← c.as_slice.ensures.value) (sym c.lists-fails.ensures ∙ c.if-fails.false) in (
      λ failed. absurd (c.take_line.ensures.works failed),
      λ fails. absurd (let both : false ≡ true = sym works ∙ fails in cc),
    )
