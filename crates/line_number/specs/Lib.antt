pub mod LineNumber
