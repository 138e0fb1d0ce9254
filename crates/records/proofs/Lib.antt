-- Laws of values in their places.
pub mod Places
