pub mod Counted
pub mod Causes
pub mod Memory
pub mod Hosts
pub mod MemHosts
pub mod HostCode
pub mod Files
pub mod FileCalls
