-- What a listing says of a frame, the listing of a capture, how far one has come, and the listings of the bench sheet.
pub mod Kinds
pub mod Parts
pub mod Listing
pub mod Tallies
pub mod Bench
