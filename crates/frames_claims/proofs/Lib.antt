pub mod Claims
pub mod FieldParts
pub mod LineLaws
