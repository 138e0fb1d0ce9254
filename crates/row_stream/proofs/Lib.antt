-- `Told` has the number of an outcome. `Fed` has what a call and the row of its answer say of the reader that is left, and `Single` that the promise leaves
-- one number, one reader and one row. For the short ways, `Laid` has what a call says where there is room for every
-- row, `Front` and `Few` what the calls do that have ways of their own, and `Begun` which calls decide nothing.
pub mod Told
pub mod Fed
pub mod Single
pub mod Laid
pub mod Front
pub mod Few
pub mod Begun
