-- What the parts of the sentence reader give back.
pub mod Fields
pub mod Readings
pub mod Payloads
