pub mod LaidLaws
pub mod StepLaws
