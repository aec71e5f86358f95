pub mod PlanServedLemmas
