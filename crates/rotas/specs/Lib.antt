pub mod Rota
pub mod Counted
pub mod Claims
