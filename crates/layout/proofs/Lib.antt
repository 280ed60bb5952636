pub mod RingStarts
pub mod RecordLaws
pub mod Layouts
pub mod LaidLaws
