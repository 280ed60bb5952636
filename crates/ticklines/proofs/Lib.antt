pub mod LinesLaws
pub mod LeastLaws
pub mod TickLaws
