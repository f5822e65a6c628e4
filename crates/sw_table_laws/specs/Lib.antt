pub mod Rows
pub mod Table
pub mod Buckets
pub mod Sizes
pub mod Laws
