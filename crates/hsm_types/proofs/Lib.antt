pub mod HandleBytes
pub mod AscendingIds
pub mod Queues
pub mod Righted
pub mod Stubbing
pub mod Changing
pub mod Limiting
