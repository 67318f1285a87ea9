-- What a reader has to believe of values, shortest first; then the proofs of their laws, which the implementations cite.
pub mod Bytes
pub mod Rates
pub mod Fingerprints
pub mod BigEndian
pub mod Same
pub mod RatesLemmas
pub mod FingerprintsLemmas
