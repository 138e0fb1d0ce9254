-- Demands 2 and 3 over the functions that a C program calls.
pub mod RowSessions
pub mod Passed
