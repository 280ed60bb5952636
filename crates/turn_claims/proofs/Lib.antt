pub mod StandsLaws
pub mod ListedLaws
pub mod ReplayLaws
pub mod FitLaws
pub mod Claims
pub mod Examples
