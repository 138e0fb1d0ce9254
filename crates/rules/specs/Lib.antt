-- The rules of document 01, in its order, with what [3] of document 02 adds to reports, and the messages of its [1]. `Bytes`
-- has the words that all of them use.
pub mod Bytes
pub mod Numbers
pub mod Codes
pub mod Status
pub mod Sentences
pub mod Messages
pub mod Refusals
pub mod Answers
pub mod Form
