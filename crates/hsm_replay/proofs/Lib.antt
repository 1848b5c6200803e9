mod Telling
pub mod Marking
pub mod MarkKinds
pub mod PartsDone
mod PartsOn
mod Resuming
mod PartsRun
pub mod Deeds
mod DeedSteps
mod DeedRounds
mod ReadyCallers
mod Between
mod OnDrives
mod HandedIn
mod Stepped
mod ActSteps
mod Committing
pub mod Growing
mod Fetching
pub mod Sealing
pub mod Filling
mod Marked
mod SessionCalls
mod RecallShown
mod MigrateShown
mod Stepping
mod Moves
mod Events
pub mod Joining
mod Working
mod Beginning
mod Refusals
mod Kept
mod HeldUp
mod Due
mod Freshness
mod Longer
mod Turning
mod WhichRun
mod Rounds
pub mod Sending
mod TurnedAway
mod Begun
mod Resting
