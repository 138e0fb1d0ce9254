-- `Families` says that a family's byte stands for the family that C passes, and `Single` that each promise of the boundary leaves
-- one answer and one content of the lent memory.
pub mod Families
pub mod Single
