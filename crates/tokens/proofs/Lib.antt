pub mod Checks
pub mod Cuts
pub mod Firsts
pub mod Runs
pub mod Spaces
