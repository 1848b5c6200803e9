mod Naming
mod Listing
mod Zipping
