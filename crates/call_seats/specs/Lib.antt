pub mod Passes
pub mod Rule
pub mod Seated
pub mod Views
