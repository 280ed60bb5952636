pub mod Examples
pub mod TextLaws
pub mod NextLaws
pub mod SumLaws
pub mod EndLaws
pub mod CountLaws
