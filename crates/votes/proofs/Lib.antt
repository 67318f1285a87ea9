-- The lemmas of this crate, by topic.
pub mod Framing
pub mod Voids
