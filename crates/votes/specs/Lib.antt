-- What a reader has to believe of votes, shortest first.
pub mod Votes
pub mod Frames
