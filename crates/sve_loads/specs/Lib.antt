pub mod AtOnce
pub mod Plans
pub mod PlanLaws
