pub mod BaySets
pub mod Boards
pub mod Matrices
pub mod PairLists
