pub mod Pages
pub mod Memory
pub mod Flash
pub mod Wholes
