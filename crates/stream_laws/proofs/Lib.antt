-- Laws of the head of a list of bytes: how a start is decided, for a packet, for a frame between brackets, and for any
-- family.
-- Laws for code that looks at many bytes at once. `Starts` is for a walk over the starts of a list, `Calls` for the answer
-- of a call, and `Jump` for how many bytes a call takes.
-- Demand 3. `Facts` is what a family owes. Over any family that has them, `Looks` and `Calls` say what a call does,
-- `States` what the state of a reader is; `Sessions` has demand 3, and `Possible` that there are such sessions. `Earliest`
-- ties the rule to the good frames of demand 2, `Listing` the lister to the reader. `Saying` has what the answers say in
-- the terms of document 01, and `Single` that each promise leaves one answer.
pub mod Lists
pub mod Course
pub mod Numbers
pub mod PacketStarts
pub mod PacketCourse
pub mod Runs
pub mod Bracketed
pub mod BracketStarts
pub mod BracketCourse
pub mod Heads
pub mod Families
pub mod Starts
pub mod CallsAtOnce
pub mod Jump
pub mod Walks
pub mod Facts
pub mod Looks
pub mod Calls
pub mod States
pub mod Sessions
pub mod Possible
pub mod Earliest
pub mod Listing
pub mod Saying
pub mod Single
