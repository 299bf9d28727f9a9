mod Listed
mod Memory
mod Passes
mod Packings
mod WholeFits
mod KindFacts
mod RoundTrips
