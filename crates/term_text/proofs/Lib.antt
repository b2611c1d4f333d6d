pub mod NamePlaces
pub mod NamesAlone
pub mod NamedTerms
pub mod ReservedWords
pub mod Runs
pub mod TokenAt
pub mod Stack
pub mod Tokens
pub mod Ranges
mod PhaseSteps
mod MemberSteps
mod TokenPieces
mod DecimalTexts
mod PieceReads
mod PhaseSets
mod AtomsRead
mod TreesRead
mod VerdictsBack
mod LengthsWritten
mod FineTokens
mod NodeCounts
mod MeantTrees
pub mod WritableTrees
pub mod Judged
pub mod Flawed
pub mod ListsJudged
pub mod Taken
pub mod OneStep
pub mod AllSteps
pub mod WholeText
