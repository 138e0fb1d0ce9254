-- `Demand1` has when the reader of one frame and the writers say which number, `Demand2` has the theorems over all kinds
-- of frames, `Writers` ties them to the writers that run, `Demand3` has demand 3 and what goes with it for each family,
-- `Values` says that a frame's values tell its record, and `Sheet` has the cases of the bench sheet.
pub mod Demand1
pub mod Writers
pub mod Demand3
pub mod Values
pub mod Sheet
pub mod Demand2
