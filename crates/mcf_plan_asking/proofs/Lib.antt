pub mod PlanAskedLemmas
