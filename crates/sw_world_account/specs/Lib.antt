pub mod Accounting
pub mod Firsts
pub mod Kept
