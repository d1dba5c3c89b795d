pub mod Costs
pub mod Counting
pub mod Prices
pub mod Rules
pub mod SumLaws
pub mod LargestLaws
