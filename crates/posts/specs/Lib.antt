-- What a reader has to believe of posts, shortest first.
pub mod Faults
pub mod Posts
pub mod Memories
pub mod Layouts
