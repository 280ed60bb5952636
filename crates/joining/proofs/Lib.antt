pub mod JoinLaws
pub mod FitLaws
pub mod WalkLaws
pub mod TotalLaws
pub mod SoonestLaws
pub mod CandidateLaws
pub mod StepLaws
