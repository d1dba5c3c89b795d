pub mod Firsts
pub mod Meaning
pub mod Outcomes
pub mod Reading
pub mod Refusals
pub mod TrimFacts
pub mod Trims
