pub mod Aids
