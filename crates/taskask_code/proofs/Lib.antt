pub mod SomeLaws
