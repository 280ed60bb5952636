pub mod Rota
pub mod Claims
