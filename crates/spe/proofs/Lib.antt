-- Rows of bytes, weighed: the numbers that the rules read from them, and those of a report's data. `PacketFrames` has
-- when bytes are a packet, `Beginning` what the first bytes of a report say, and `Found` what it tells that a value was
-- found. `ReportFrames` has when bytes are a report's frame. `ReportTexts` has the rules of one field as tests of its bytes,
-- `ReportBounds` the bounds of all bytes field by field, and `ReportData` puts them together: the rules of the data are the
-- tests.
pub mod Found
pub mod Weighed
pub mod Values
pub mod PacketFrames
pub mod Beginning
pub mod ReportFrames
pub mod ReportTexts
pub mod ReportBounds
pub mod ReportData
