pub mod Bests
pub mod Bounds
pub mod Facts
pub mod Plans
pub mod Rounds
pub mod Sweeps
