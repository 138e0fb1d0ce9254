-- A frame as texts.
pub mod Texts
