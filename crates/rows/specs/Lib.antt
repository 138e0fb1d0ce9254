-- A frame that is read and laid as a row.
-- The first six numbers of a row.
-- A frame, and what a call answers, as a row of numbers.
pub mod ReadRows
pub mod Headings
pub mod Rows
