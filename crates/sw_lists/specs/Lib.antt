pub mod Lists
pub mod Numbers
pub mod Merge
pub mod Perm
