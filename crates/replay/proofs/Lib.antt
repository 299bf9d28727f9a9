mod Countings
mod HeaderFacts
mod Crossings
mod Watching
mod Endings
