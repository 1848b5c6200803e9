pub mod ReadObjects
