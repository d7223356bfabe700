pub mod Rectangles
