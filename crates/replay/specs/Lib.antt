pub mod Summaries
pub mod SummaryLines
pub mod LogKinds
pub mod Outcomes
pub mod Watched
