-- What the bench sheet says, and what the answers of its cases say in numbers and values.
pub mod Bench
pub mod Said
