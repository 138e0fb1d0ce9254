-- Laws of a row of fields, of a temperature, of the records that rows make, of a payload's tests, of the frame around a
-- payload, and of payloads at full width.
pub mod Texts
pub mod Rows
pub mod Temperatures
pub mod Sentences
pub mod Payloads
pub mod Frames
pub mod Bounds
pub mod FullWidth
pub mod Full02
pub mod Full03
pub mod Full05
