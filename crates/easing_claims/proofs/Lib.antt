pub mod TasksLaws
pub mod ProcessorLaws
pub mod Claims
