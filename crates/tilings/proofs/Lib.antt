pub mod Putting
pub mod Cornering
pub mod Lowering
pub mod Laying
pub mod Painting
pub mod Linking
pub mod Halving
pub mod Shows
