pub mod BitLaws
pub mod BoardLaws
pub mod PairLaws
pub mod Counts
