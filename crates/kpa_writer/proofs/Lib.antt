-- What the proofs of the writers share: numbers in their digits, and in pairs.
pub mod Numbers
pub mod Pairs
