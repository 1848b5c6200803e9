pub mod QuietEvents
pub mod Lists
pub mod Carrying
pub mod Handing
mod AnyAnswer
pub mod Seating
pub mod Remembering
pub mod Seen
mod Walking
pub mod Causing
mod Outstanding
pub mod Leaving
pub mod Accounting
pub mod OwnSeats
pub mod BothSeats
mod KeepingAll
mod Granting
mod Freeing
pub mod TellingOne
pub mod DaemonsTables
pub mod DaemonsCalls
pub mod NoneWaiting
pub mod Ways
pub mod Informing
pub mod Waiting
pub mod StillSo
