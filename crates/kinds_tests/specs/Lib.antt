pub mod Rain
