-- `Frames` has what is found at a frame of the rule and behind some frames, `Tallies` how far a listing has come, `Answers`
-- what the lister's answer tells it, and `Fronts` a line that is laid from its front. `Room` says that nothing of a line is
-- left out, and `Sheet` has the listings of the bench sheet.
pub mod Frames
pub mod Tallies
pub mod Answers
pub mod Fronts
pub mod Room
pub mod Sheet
