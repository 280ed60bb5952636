pub mod FailsLaws
