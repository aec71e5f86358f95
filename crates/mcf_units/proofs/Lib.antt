mod MadeProblems
pub mod RowRoutes
pub mod Scaling
