pub mod SoFar
pub mod Granting
pub mod Assembling
pub mod ClassBits
pub mod HeaderTrip
pub mod RowsTrip
pub mod FormulaTrip
pub mod WorkedCases
