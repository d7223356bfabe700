pub mod Adjacent
