mod Mapped
mod Outlining
mod Fitting
mod Likening
mod Leaving
mod Calling
mod Telling
mod Outlined
mod Stepping
mod Plainly
pub mod Goods
