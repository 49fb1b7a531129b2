pub mod PageLists
pub mod Runs
pub mod MemoryPages
pub mod Erasing
