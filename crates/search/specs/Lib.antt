-- What is seen of a start before a frame is read there, and what a walk along starts finds.
pub mod Seen
pub mod Sought
