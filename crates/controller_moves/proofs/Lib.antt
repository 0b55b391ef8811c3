pub mod Letters
pub mod Works
pub mod Turns
pub mod Following
pub mod Spelling
pub mod MemberMoves
pub mod ControllerLaws
