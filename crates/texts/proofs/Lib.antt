mod Numbering
pub mod SheetLines
