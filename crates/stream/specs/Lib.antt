-- A call on a lent reader, in the words of one by value.
pub mod Lent
