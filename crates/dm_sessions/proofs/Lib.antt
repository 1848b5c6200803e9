mod Ascending
mod Climbing
mod InOrder
mod Lookups
mod Moves
mod OneSession
mod TokenOrder
