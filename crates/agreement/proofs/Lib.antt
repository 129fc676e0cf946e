-- Agreement (`planned_accepted`: the checker accepts what the planner wrote with the delay that it gave).
pub mod Agreement
