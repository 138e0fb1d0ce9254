-- The first letters of a body as a number, the bytes of a number that holds letters, and pairs of digits as they are read.
pub mod Words
pub mod Pairs
