-- The laws of placing.
pub mod PlacementLaws
pub mod FittingLaws
pub mod AloneLaws
pub mod RoomLaws
pub mod TurnedLaws
pub mod Claims
pub mod KeptLaws
pub mod SoFarLaws
pub mod RuleLaws
pub mod Worked
