-- What a capture reader gives and how it is altered, and where the next frame of a capture stands.
pub mod Captures
pub mod Finds
