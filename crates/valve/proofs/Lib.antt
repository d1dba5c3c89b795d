pub mod OneBits
pub mod SetParts
pub mod SetUpLaw
pub mod SetUpSteps
pub mod ValveOpens
pub mod ValveStates
