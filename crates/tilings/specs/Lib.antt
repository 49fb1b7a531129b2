pub mod Tiles
pub mod Filling
pub mod Naming
pub mod Images
pub mod Ends
