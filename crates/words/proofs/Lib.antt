-- The lemmas of this crate, by topic.
pub mod Refusals
pub mod Hexes
pub mod Cutting
pub mod Chunks
