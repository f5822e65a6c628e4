pub mod NameLaw
