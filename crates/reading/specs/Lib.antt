pub mod Between
pub mod Outside
pub mod Readings
pub mod Waiting
pub mod Yard
