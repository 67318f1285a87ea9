-- What a reader has to believe of the program, shortest first.
pub mod Faults
pub mod Verbs
pub mod Stages
pub mod Commands
pub mod Answers
pub mod Desks
pub mod Sessions
