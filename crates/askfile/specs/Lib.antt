pub mod OfFile
