pub mod Lists
pub mod Answers
pub mod Commits
pub mod Grown
pub mod Whole
