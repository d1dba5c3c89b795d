pub mod Puts
pub mod Reads
pub mod Steps
