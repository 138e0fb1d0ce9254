-- The parts of a packet that a private function writes.
pub mod Fields
