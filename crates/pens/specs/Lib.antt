-- What the pens leave in the lent output.
pub mod Pens
