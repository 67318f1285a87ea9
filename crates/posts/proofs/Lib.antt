-- The lemmas of this crate, by topic.
pub mod Calls
pub mod Holding
pub mod Standing
pub mod Instances
