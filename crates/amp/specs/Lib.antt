-- What each exported function answers, and what it leaves in the memory that is lent to it.
pub mod Boundary
