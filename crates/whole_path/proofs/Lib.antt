-- Their proofs.
pub mod WholePathLaws
pub mod FromSpreadsheetLaws
