pub mod Files
pub mod Snapshots
pub mod Reading
pub mod FileRecords
pub mod Refusals
pub mod Parts
pub mod FileValidity
