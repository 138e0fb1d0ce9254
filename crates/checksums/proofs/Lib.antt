-- `Weights` has the laws of the two sums: what they are of all bytes at once.
-- Laws of tables and of hexadecimal digits.
pub mod Weights
pub mod Digits
