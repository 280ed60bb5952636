pub mod TextsLaws
