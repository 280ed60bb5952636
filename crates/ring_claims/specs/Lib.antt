pub mod Slotted
pub mod Serves
pub mod Held
pub mod Rota
pub mod Claims
