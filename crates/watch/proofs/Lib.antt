mod HistoryFacts
mod RecordFacts
mod AnswerFacts
mod SameAccount
mod NothingKept
mod TableKept
mod BeginKept
mod EndedFacts
mod AbortKept
mod AccessFacts
mod AccessKept
mod LinkLoops
mod CommitFacts
mod CleanKept
mod CrossingKept
mod OpenedAccount
pub mod Keeping
pub mod RunFacts
mod HeldFacts
pub mod Settling
mod RunSteps
pub mod ModeFacts
mod Agreement
mod LengthFacts
pub mod RunAgreement
