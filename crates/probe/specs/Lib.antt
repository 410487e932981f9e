pub mod RecordStart
pub mod Shape
