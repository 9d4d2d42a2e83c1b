pub mod Plans
pub mod PlanLaws
pub mod Indexing
pub mod Gathers
pub mod FirstFaultPlan
pub mod InPage
