-- Each turn of a closing lowers what is left to do, so that a closing takes no more turns than the bound.
pub mod Worths
pub mod SwitchMeasure
pub mod MemberMeasure
pub mod CommandCounts
pub mod AnswerWorths
pub mod PieceMeasure
pub mod WorkMeasure
pub mod LoggedMeasure
pub mod PrimaryMeasure
pub mod DrainingMeasure
pub mod PrimaryLowers
pub mod StartMeasure
pub mod OpenedMeasure
pub mod LeftEvents
pub mod KnownEntries
pub mod Quickly
pub mod QuickClosings
