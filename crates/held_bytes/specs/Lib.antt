-- What a call leaves of a lent stream reader, and of one that comes in its parts.
pub mod Moves
pub mod Places
