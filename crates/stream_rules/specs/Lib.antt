-- The rules of document 01 for streams, the lister and stamps, in its order, with what [3] of document 02 changes of
-- reports, and the messages of its [1].
pub mod Heads
pub mod Rule
pub mod Streams
pub mod Lister
