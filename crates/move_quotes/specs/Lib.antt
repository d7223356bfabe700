pub mod Quote
