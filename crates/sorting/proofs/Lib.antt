pub mod PutLaws
pub mod SortLaws
pub mod Comparing
