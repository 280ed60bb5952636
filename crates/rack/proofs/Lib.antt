pub mod ListLaws
pub mod RackLaws
