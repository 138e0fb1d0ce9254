-- What the proofs of the writers share: a number with a point, and the parts of a report.
pub mod Points
pub mod Report
