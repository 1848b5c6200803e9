pub mod Sitting
pub mod Machines
pub mod Walking
mod Keeping
mod Telling
mod KnownOnTheWay
mod TakingOver
mod MakingAnew
mod Causing
pub mod UnknownTokens
mod Seats
mod KeepingAll
mod OneWay
mod Beginning
mod FitActs
mod Passing
