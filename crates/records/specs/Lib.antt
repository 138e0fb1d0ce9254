-- A frame's fields as they are handed on.
pub mod Told
