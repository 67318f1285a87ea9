-- The lemmas of this crate, by topic.
pub mod Arrays
