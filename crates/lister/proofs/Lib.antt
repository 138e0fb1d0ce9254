-- `GoodLengths` has the length of a good frame at the head, `Packets` that of a command and of a reply by their tests,
-- `Names` how a sentence begins, `Bodies` which messages are good, `Skips` which starts are passed over together, and `Filling` how the list of
-- starts is filled. `Families` tells a family from the others.
pub mod Families
pub mod Filling
pub mod Names
pub mod Bodies
pub mod Packets
pub mod GoodLengths
pub mod Skips
