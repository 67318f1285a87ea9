-- The lemmas of the program, by topic.
pub mod Reading
pub mod Filling
pub mod Ignored
pub mod Telling
