pub mod PlanLaws
pub mod Claims
