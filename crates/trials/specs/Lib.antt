-- The worked example, for a reader to hold beside the format.
pub mod Worked
