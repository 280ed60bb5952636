pub mod WhoRuns
