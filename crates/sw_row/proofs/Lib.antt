pub mod Places
pub mod Filling
pub mod Numbers
pub mod Fitting
pub mod Texts
