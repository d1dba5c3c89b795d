pub mod Puts
pub mod Refusals
pub mod Writing
