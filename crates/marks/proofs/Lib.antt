mod SliceLaws
pub mod SameLaws
pub mod AnyLaws
mod LinkLaws
mod PlaceLaws
mod HoldLaws
pub mod BayLaws
pub mod HoldsLaws
pub mod HoldEffects
pub mod ApartLaws
pub mod CountLaws
pub mod ListedLaws
pub mod AgainstLaws
