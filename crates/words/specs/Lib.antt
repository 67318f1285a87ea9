-- What a reader has to believe of words.
pub mod Hex
pub mod Lines
pub mod Numbers
pub mod Refusals
