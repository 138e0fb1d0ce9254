-- Laws of a body's letters as they are read, of what stands behind them, and of the frame.
pub mod Steps
pub mod Words
pub mod LastLetters
pub mod Responses
pub mod Frames
