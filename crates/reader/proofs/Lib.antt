pub mod Fillings
pub mod Fronts
pub mod Laying
pub mod Layouts
pub mod Places
pub mod Readings
pub mod Verdicts
pub mod Stepping
