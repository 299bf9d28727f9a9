pub mod FieldLists
pub mod Pasting
pub mod Numbers
pub mod Fitting
