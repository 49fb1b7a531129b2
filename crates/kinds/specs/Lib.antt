pub mod Fields
pub mod Meaning
pub mod Formats
pub mod Kinds
pub mod FormatsLemmas
pub mod Kilohms
