-- Proved here: a text is printed piece by piece, all of it, or a part from its front where a write failed; and a text
-- is escaped as its definition says, whatever its bytes.
pub mod Pieces
pub mod Escapes
