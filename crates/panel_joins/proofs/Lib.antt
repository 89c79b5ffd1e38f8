-- Laws of `panel_joins`.
pub mod JoinLaws
