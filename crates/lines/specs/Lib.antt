-- Texts laid into a lent line, one behind the other.
pub mod Lines
