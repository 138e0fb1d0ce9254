-- `RowSessions` has demand 3 for a C program, `Passed` demand 2. `Counts` says how many values a row has, `Apart` and `Answered` that rows
-- tell answers apart.
pub mod RowSessions
pub mod Counts
pub mod Apart
pub mod Answered
pub mod Passed
