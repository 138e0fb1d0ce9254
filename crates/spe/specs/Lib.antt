-- What the reader of a report gives back.
-- What the tests of a report's data look for.
-- `Ends` has what stands at the two ends of a report, and `Packets` the code of a packet.
pub mod Ends
pub mod Packets
pub mod Report
pub mod ReportTests
