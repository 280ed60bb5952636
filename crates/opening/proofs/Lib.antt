pub mod OptionalLaws
