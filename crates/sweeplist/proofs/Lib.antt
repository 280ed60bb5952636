pub mod SweptLaws
