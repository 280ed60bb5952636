pub mod TellLaws
pub mod FieldLaws
pub mod AnswerLaws
pub mod CutLaws
pub mod RefusedLaws
pub mod PlaceLaws
pub mod Claims
