-- Proved here: the words of a line that is made, and that what they say is plain.
mod Letters
mod Defined
mod Saying
