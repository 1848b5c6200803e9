pub mod Used
pub mod Runs
pub mod PartLists
pub mod Asked
