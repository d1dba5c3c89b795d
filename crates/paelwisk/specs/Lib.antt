pub mod Answers
pub mod Asks
pub mod Commands
pub mod Failures
pub mod Lines
pub mod Names
pub mod SetUps
pub mod Words
