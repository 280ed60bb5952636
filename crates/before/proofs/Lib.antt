pub mod ReadingLaws
pub mod AlikeLaws
pub mod CacheLaws
pub mod PlanningLaws
pub mod StateLaws
pub mod Claims
