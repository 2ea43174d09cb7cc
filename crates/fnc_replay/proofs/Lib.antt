-- Proved here: a line that was served gave the newest input and left the session at rest, what was written of the
-- journal stays written, and each session ends by the cause that it tells.
pub mod Resting
pub mod Growing
pub mod Hearing
pub mod Writing
mod Rooms
mod Papers
