pub mod Readers
pub mod ReadValues
pub mod RecordReaders
pub mod StandingRecords
pub mod WrittenTexts
