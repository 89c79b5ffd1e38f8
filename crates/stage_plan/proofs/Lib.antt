-- Laws of `stage_plan`.
pub mod PlanLaws
