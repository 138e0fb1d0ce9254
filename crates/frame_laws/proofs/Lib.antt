-- Laws about the definitions, file by file as those stand; what answers say in the terms of document 01, and that each
-- promise leaves one answer. `Exact` says what it is to be a frame of each kind; `Spe` has the theorems of families 1 and
-- 3, which `Comma`, `Report` and `Form` serve, `Alpha` those of family 2, and `MessageReading` and `Messages` those of family
-- 4, which `Letters`, `Pairs`, `Listed` and `MessageParts` serve.
pub mod Tables
pub mod Bytes
pub mod Lists
pub mod Numbers
pub mod Fields
pub mod Sentences
pub mod SentenceFields
pub mod SentenceRecords
pub mod Saying
pub mod Single
pub mod Comma
pub mod Report
pub mod Form
pub mod Exact
pub mod Reading
pub mod Spe
pub mod Alpha
pub mod Letters
pub mod Pairs
pub mod Listed
pub mod MessageParts
pub mod MessageReading
pub mod Messages
