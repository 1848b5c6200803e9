pub mod Folds
pub mod Images
pub mod Laws
pub mod FoldedFiles
pub mod FoldedStores
pub mod Judged
pub mod Counted
pub mod Open
