-- What the steps of the lister give, and how it fills the list.
pub mod Fills
pub mod GoodLengths
