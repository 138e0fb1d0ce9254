-- Where a field ends.
-- What the leaves give back.
-- What the numbers in fields give back.
pub mod Commas
pub mod Parts
pub mod Numbers
