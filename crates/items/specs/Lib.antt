pub mod Refusals
pub mod Modes
pub mod Kinds
pub mod Entries
pub mod Lists
pub mod Lines
pub mod KindNames
