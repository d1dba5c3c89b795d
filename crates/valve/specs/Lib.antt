pub mod Parts
pub mod Refusals
pub mod SetUp
pub mod Valves
