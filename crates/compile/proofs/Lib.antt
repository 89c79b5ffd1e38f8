-- What several proofs use.
pub mod RowLaws
pub mod FirstLaws
pub mod CountLaws
pub mod ForecastLaws
