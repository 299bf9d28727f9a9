pub mod Translation
pub mod Packs
pub mod Trips
