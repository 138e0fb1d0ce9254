-- What a caller gives as plain numbers, and what the writers answer it.
pub mod Given
