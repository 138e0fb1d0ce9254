-- How many bytes a start needs, where it has a count that is allowed.
pub mod Needed
