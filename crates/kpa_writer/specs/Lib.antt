-- What the writers of messages lay: numbers as pairs of digits in a text.
pub mod Pairs
