pub mod Checks
pub mod Clauses
pub mod Dimacs
pub mod Formulas
pub mod Resolution
pub mod literal_marks
