-- Facts about the words of specs/Printing.antt.
pub mod Escapes
pub mod Joins
