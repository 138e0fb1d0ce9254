-- What the writer's answer says of the texts that it is shown by, and values shown one behind the other.
pub mod Answered
pub mod Onward
