pub mod PermutedLaws
pub mod EachLaws
pub mod TurnsLaws
pub mod TurnedLaws
pub mod RankedLaws
pub mod FractionLaws
pub mod Claims
