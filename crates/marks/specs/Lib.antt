pub mod Holders
pub mod Marks
pub mod Places
pub mod Holding
pub mod Opening
pub mod Steps
pub mod Against
pub mod Apart
