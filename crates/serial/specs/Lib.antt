pub mod Lists
pub mod Accesses
pub mod Paths
pub mod Arrangements
pub mod Changes
