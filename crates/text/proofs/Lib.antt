-- The lemmas of this crate, by topic.
pub mod Values
pub mod Words
