pub mod Past
pub mod TaskLaws
pub mod AmongLaws
pub mod Lines
pub mod OpeningLaws
pub mod Standing
