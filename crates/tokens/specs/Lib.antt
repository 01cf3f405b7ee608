pub mod Bytes
pub mod Cutters
pub mod Faults
pub mod InOrder
pub mod Limits
pub mod Spacing
pub mod Tokens
