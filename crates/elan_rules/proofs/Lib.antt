mod Lists
mod Stores
mod ChoiceLists
pub mod First
pub mod TypeEquations
pub mod Typed
pub mod TypedUnits
pub mod TypedLoops
pub mod TypedChoices
pub mod TypedPerformed
pub mod HeldCells
pub mod TypedCalls
pub mod Hung
pub mod Together
mod Bound
