pub mod Tasking
