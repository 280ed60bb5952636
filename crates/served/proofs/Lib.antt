pub mod ServedLaws
