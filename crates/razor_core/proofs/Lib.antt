pub mod EquivEnding
pub mod DifferText
pub mod DriveEnding
pub mod SessionEnding
pub mod Ended
pub mod Behind
pub mod Passing
pub mod Endings
pub mod Sound
pub mod Tables
pub mod TraceEnding
pub mod TrimEnding
pub mod SlotEnding
pub mod Turns
pub mod CertEnding
pub mod CheckEnding
pub mod SaidSo
pub mod SelfrunEnding
pub mod SpelledNames
pub mod FieldOrders
pub mod OrderText
pub mod Gave
pub mod MadeTables
pub mod StateLines
pub mod AnswerEnding
pub mod AnsweredBoxes
pub mod VerifyEnding
pub mod WordLengths
pub mod FileWords
pub mod Fronts
mod PossibleTexts
mod Calls
mod FileCalls
mod CallsOf
mod TakenReads
