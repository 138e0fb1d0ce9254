-- `Blocks` has inner bytes in the library's words, and block by block; `Needed` what is known of the bytes that a start needs.
pub mod Blocks
pub mod Needed
