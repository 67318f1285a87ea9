-- What a reader has to believe of text, shortest first; then the proofs of its laws, which the implementations cite.
pub mod Rates
pub mod Fingerprints
pub mod Values
pub mod VoteWords
pub mod Texts
