-- Proved here: what the words of a command say.
mod Reading
mod Places
mod Finding
mod Making
mod Numbers
mod Flags
mod Refusing
