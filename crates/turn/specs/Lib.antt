pub mod Stretch
pub mod Switches
pub mod Count
