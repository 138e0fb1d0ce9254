-- How a run of a stream through a kept reader goes on.
pub mod Courses
