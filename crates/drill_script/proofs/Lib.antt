mod Lawful
mod Telling
mod Turning
mod Values
