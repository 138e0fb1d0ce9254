-- What the steps of a run come to.
pub mod Courses
