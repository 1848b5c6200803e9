pub mod Texts
pub mod Reading
pub mod Places
pub mod Laws
