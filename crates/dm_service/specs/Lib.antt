pub mod Tables
pub mod Services
pub mod Handing
pub mod Parking
pub mod Judging
