pub mod FillLaws
pub mod LinesLaws
pub mod EachLaws
pub mod EachPutLaws
