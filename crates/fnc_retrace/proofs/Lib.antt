-- Proved here: what the follower's calls leave of its journal and its configuration, and that two journals which begin
-- alike go on so.
pub mod Configuring
pub mod GoingOn
pub mod Agreement
