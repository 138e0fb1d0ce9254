-- What the proofs share: values as the code compares them, the frame that is given, and a code that is no byte. Then the theorems:
-- one answer only, that what was read can be given back, and that what is given has the kind, the code and the values that it is given by.
pub mod Values
pub mod Frames
pub mod Answers
pub mod Single
pub mod Back
pub mod Told
