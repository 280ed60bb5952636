pub mod ExactLaws
pub mod AloneLaws
pub mod RoomLaws
pub mod MemberLaws
pub mod FittingLaws
pub mod CheckedLaws
pub mod AskLaws
pub mod Claims
