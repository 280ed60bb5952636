pub mod AnsweredLaws
