pub mod Follows
pub mod Known
pub mod Marks
pub mod NodeLaw
pub mod PlanLaw
pub mod PlanRules
pub mod Plans
pub mod VolumeRules
