pub mod Interrupts
