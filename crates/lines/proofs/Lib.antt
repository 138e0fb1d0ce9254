-- Laws of texts laid one behind the other, and of a number in its fewest digits.
pub mod Typed
pub mod Fewest
pub mod Single
