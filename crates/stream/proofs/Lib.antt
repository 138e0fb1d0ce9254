-- `Behind` has what the functions on a lent reader need of a reader behind a `&mut`: it is opened, and closed at another
-- reader. `Parts` has such a reader part by part. `FedBehind` has the call of `stream::feed` on such a reader. `Lending` has
-- how a local that holds a plain struct is lent by `&mut` for one call, and taken back after it, and `Fields` the same of
-- one field of a struct. `Kept` has a reader in a local, lent to `feed_lent` and to `close_lent`.
pub mod Behind
pub mod Parts
pub mod FedBehind
pub mod Lending
pub mod Fields
pub mod Kept
