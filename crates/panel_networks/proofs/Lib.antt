-- Laws of `panel_networks`.
pub mod EachLaws
pub mod EvaluateLaws
pub mod CompileLaws
pub mod ForecastLaws
pub mod OutsideLaws
pub mod CheckLaws
