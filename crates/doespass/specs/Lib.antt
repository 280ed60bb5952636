pub mod DoesPass
