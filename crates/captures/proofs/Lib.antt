-- `Facts` says that what `next` promises follows from what `find` and `text` promise, and `Single` that it leaves one
-- answer.
-- `Standing` says that what is given stands in the capture, and that the reader goes on with each frame; `Agrees` that it is
-- what the lister's second entry gives.
-- `Lending` has how a capture reader in a local is made, lent to `next` for a call, and taken back after it.
pub mod Facts
pub mod Single
pub mod Standing
pub mod Agrees
pub mod Lending
