pub mod Pages
pub mod Events
pub mod Openings
pub mod Estimates
pub mod Refusals
pub mod Looks
pub mod Searches
pub mod Trails
