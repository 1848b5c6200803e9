pub mod Choices
pub mod Orders
pub mod Names
pub mod Listings
pub mod PlacesOfFiles
pub mod KeysAt
pub mod Indexing
pub mod Keeping
