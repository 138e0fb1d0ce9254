-- What follows from the rules and is counted by: how many bytes settle a start.
-- What demand 3 speaks of.
pub mod Settled
pub mod Earliest
pub mod Sessions
