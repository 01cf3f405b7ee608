pub mod Chained
pub mod Lines
pub mod Rules
pub mod Seals
pub mod Spellings
