pub mod LaidLaws
