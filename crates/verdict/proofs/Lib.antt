pub mod Verdict
pub mod ClosestLaws
pub mod Tells
pub mod ReserveLaws
pub mod Horizons
pub mod Claims
pub mod Judged
pub mod Examples
