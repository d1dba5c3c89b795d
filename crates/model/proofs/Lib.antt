pub mod Firsts
pub mod Lookups
pub mod ReadingLaw
pub mod TrimLaws
pub mod Trimmed
