pub mod FieldBytes
pub mod Limits
pub mod Placing
pub mod TablesFree
pub mod WrittenSheets
