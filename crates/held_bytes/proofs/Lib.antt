-- `Buffers` has what stands in the held places and in the buffer of a piece, `Zeros` when zeros stand in all places,
-- `Appending` what is laid behind the first bytes, `Keeping` what is kept of them, and `Single` that the promise of
-- each function leaves one content of the places. Of calls, `Cutting` has what a search of the held bytes and a piece
-- says, `Opening` what is left of a reader by such a call, `Onward` how a call goes on behind a piece, `Closing` what a
-- closed reader hands out, `Serving` what refuses a reader, `Stays` that a call leaves its family and its flag, and
-- `PlacesSingle` that the promise of a call on a lent reader, or on a reader's parts, leaves one result.
pub mod Buffers
pub mod Zeros
pub mod Appending
pub mod Keeping
pub mod Single
pub mod Closing
pub mod Cutting
pub mod Onward
pub mod Opening
pub mod PlacesSingle
pub mod Serving
pub mod Stays
