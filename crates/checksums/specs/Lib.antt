-- What the pass over a payload gives back.
-- What the digits' functions give back.
pub mod Sums
pub mod Hex
