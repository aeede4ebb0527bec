pub mod Comparisons
pub mod Formulas
pub mod Answers
pub mod Cases
pub mod Passes
