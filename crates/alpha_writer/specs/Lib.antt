-- The parts of a sentence that a private function writes, and the lengths of payloads.
pub mod Parts
pub mod Lengths
