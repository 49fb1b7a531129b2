pub mod Fresh
pub mod Grids
pub mod Loads
pub mod Sites
pub mod Walks
pub mod Writes
