-- What an entry that is in order says of a request and of a device, so that the core may be told it; and that what was
-- read of a text is within the bounds of the core.
pub mod Bounded
pub mod FewNames
pub mod InPlace
