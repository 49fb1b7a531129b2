pub mod Answered
pub mod Flat
pub mod Judged
pub mod Numbers
pub mod Parsed
pub mod Refusals
pub mod Scaled
pub mod Standing
