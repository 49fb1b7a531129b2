mod Exact
mod Fresh
mod Found
pub mod Lists
pub mod Pages
mod Runs
pub mod Same
mod Steps
mod Tests
