pub mod LeftLaws
pub mod LighterLaws
pub mod ReserveLaws
pub mod ServerLaws
pub mod Claims
