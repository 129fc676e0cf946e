-- Laws of the checker's answers: PlanRefused (a listing for a plan that is refused).
pub mod PlanRefused
