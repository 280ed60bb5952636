pub mod RuleLaws
pub mod TurnLaws
pub mod CallerLaws
