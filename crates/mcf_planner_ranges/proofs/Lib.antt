mod DearerPlanners
mod RangeLaws
