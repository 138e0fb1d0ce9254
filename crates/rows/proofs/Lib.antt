-- `Read` has what the reader of one frame answers by what was found in its bytes, `Outcome` what the number tells of a frame
-- that was to be read and laid, and `ReadSingle` that the promise leaves one number and one row.
-- `Laid` has a row as its heading and the values behind it, `Outcomes` what each way out of a function that lays an answer shows,
-- `AnyRefusals` that an answer with the eight refusals is laid as one with refusals of any type,
-- `Lengths` how long a row is, and `Single` that what is promised of it leaves one answer and one content.
pub mod Read
pub mod Outcome
pub mod ReadSingle
pub mod Laid
pub mod Outcomes
pub mod AnyRefusals
pub mod Lengths
pub mod Single
