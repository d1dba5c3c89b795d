pub mod Blocks
pub mod SheetFacts
pub mod Sheets
pub mod Stages
pub mod Refusals
pub mod Wrongs
