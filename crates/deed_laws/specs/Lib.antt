pub mod Knowing
pub mod Telling
pub mod DaemonSessions
pub mod Caused
pub mod Keeping
pub mod Beginning
pub mod Passes
