-- `Families` has what a reader of one frame gives by the family, and `Goods` when a frame of an SPE family is good.
pub mod Families
pub mod Goods
