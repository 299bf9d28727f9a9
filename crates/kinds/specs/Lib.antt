pub mod Articles
pub mod Spans
pub mod FieldSets
