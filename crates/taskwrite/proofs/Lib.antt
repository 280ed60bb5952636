pub mod WriteAsks
