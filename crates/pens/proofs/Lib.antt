-- Laws of what the pens lay, and what the writers make of them.
pub mod Laid
pub mod Digits
pub mod Rows
pub mod Writing
