pub mod Turning
pub mod BetweenPasses
pub mod InPass
pub mod OnTheWay
pub mod Nearing
