pub mod NamedThings
pub mod HandingOut
pub mod Files
pub mod Noted
pub mod SharedFolders
