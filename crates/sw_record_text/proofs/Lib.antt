pub mod EachLaw
