-- `Seeing` turns the laws of heads into what is seen of a start. `Passing` has which starts are bad by a byte further
-- on, `Soon` which bytes are no good frame, `Stopping` how a walk along the starts goes on and stops, and `Searching`
-- what a search finds at a stop. `Walk` has what one step along a capture says of the frames that are left.
pub mod Seeing
pub mod Passing
pub mod Soon
pub mod Stopping
pub mod Searching
pub mod Walk
