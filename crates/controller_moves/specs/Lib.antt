pub mod Projection
pub mod Rules
pub mod Works
pub mod Laws
pub mod Spelling
pub mod MemberMoves
pub mod ControllerLaws
