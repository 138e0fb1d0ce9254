-- Laws of the texts between commas.
-- `Steps` has what a loop over a list needs: its next element, and its end.
-- `Rows` has what the reader of a number needs.
pub mod FieldEnds
pub mod Steps
pub mod DigitRows
pub mod Equal
