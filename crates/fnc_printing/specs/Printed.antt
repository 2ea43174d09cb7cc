-- How a text is printed: piece by piece, until a write fails.
use Rattle.std.specs.Prelude.{ℕ, ◌≡◌, List, ◌++◌, Option, decimal}
use Rattle.std.specs.Fmt.{signed_decimal}
use Rattle.std.specs.List.{flat_map}
use Rattle.fnc_outside.specs.Told.{Gains}
use Rattle.fnc_journal.specs.Line.{escaped}
use Rattle.fnc_printing.specs.declared.piece.Piece.{Piece}

-- what is printed of a piece
abbrev pub piece_text : Piece → List ℕ
piece_text (Piece.Word word) = word.now
piece_text (Piece.Number number) = decimal number
piece_text (Piece.Signed number) = signed_decimal number
piece_text (Piece.Name name) = escaped name.now

-- what is printed of pieces
abbrev pub pieces_text : List Piece → List ℕ
pieces_text pieces = flat_map piece_text pieces

-- of a whole text a front was written, and the rest is still to come
pub record Progress (before now : Option (List ℕ)) (whole rest : List ℕ) : Type 0 where
  pub done : List ℕ
  pub splits : done ++ rest ≡ whole
  pub gained : Gains before now done
