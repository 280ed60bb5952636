pub mod ChargedLaws
