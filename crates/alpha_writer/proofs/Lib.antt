-- What the proofs of the writers share: temperatures, rows of decimal fields, the frame, and ranges.
pub mod Signs
pub mod Decimals
pub mod Sealed
pub mod Ranges
